-- What an export alone answered, as the server answers it.
use Rattle.std.specs.Prelude.{ℕ, Result, Ok, Err}
use Rattle.reply_box.specs.declared.fault.NotOpen.{NotOpen}
use Rattle.lone_export.specs.declared.refusal.NotAttached.{NotAttached as NotAttachedAlone}
use Rattle.lone_export.specs.declared.refusal.NotAttached.TheVariants as alone
use Rattle.lone_export.specs.declared.refusal.AttachRefusal.TheVariants as attaching
use Rattle.lone_export.specs.declared.refusal.RetuneRefusal.TheVariants as tuned
use Rattle.export_cell.specs.declared.refusal.ArriveFault.{ArriveFault}
use Rattle.export_cell.specs.declared.refusal.ArriveFault.TheVariants as fault
use Rattle.export_cell.specs.declared.refusal.NotRetuned.{NotRetuned as NotRetunedAlone}
use Rattle.export_cell.specs.declared.refusal.NotRetuned.TheVariants as kept
use Rattle.lone_export.specs.declared.refusal.ArriveRefusal.{ArriveRefusal as ArriveRefusalAlone}
use Rattle.lone_export.specs.declared.refusal.ArriveRefusal.TheVariants as arriving
use Rattle.server_core.specs.declared.refusal.ArriveRefusal.{ArriveRefusal}
use Rattle.server_core.specs.declared.refusal.ArriveRefusal.TheVariants as refusal
use Rattle.server_core.specs.declared.session.SessionId.{SessionId}
use Rattle.server_core.specs.declared.refusal.NotAttached.{NotAttached}
use Rattle.server_core.specs.declared.refusal.NotAttached.TheVariants.{Worn, Full, NoMemory}
use Rattle.server_core.specs.declared.refusal.NotRetuned.{NotRetuned}
use Rattle.server_core.specs.declared.refusal.NotRetuned.TheVariants as retuning
use Rattle.server_core.specs.declared.refusal.SessionRefusal.{SessionRefusal}
use Rattle.server_core.specs.declared.refusal.SessionRefusal.TheVariants as refusing

abbrev pub here : {T : Type 0} → Result T NotOpen → Result T SessionRefusal
here (Ok t) = Ok t
here (Err e) = Err refusing.NotOpen

abbrev pub attached : ℕ → Result ℕ NotAttachedAlone → Result SessionId NotAttached
attached e (Ok n) = Ok (record { export = e; number = n })
attached e (Err (alone.Refused attaching.Worn)) = Err Worn
attached e (Err (alone.Refused attaching.Full)) = Err Full
attached e (Err alone.NoMemory) = Err NoMemory

abbrev pub retuned : Result (Unit {0}) NotRetunedAlone → Result (Unit {0}) NotRetuned
retuned (Ok done) = Ok done
retuned (Err (kept.Refused tuned.Worn)) = Err retuning.Worn
retuned (Err (kept.Refused tuned.Waiting)) = Err retuning.Waiting
retuned (Err kept.NoMemory) = Err retuning.NoMemory

abbrev pub refusal_here : ArriveRefusalAlone → ArriveRefusal
refusal_here arriving.NotOpen = refusal.NotOpen
refusal_here arriving.Worn = refusal.Worn
refusal_here arriving.Hold = refusal.Hold

abbrev pub fault_here : ArriveFault → ArriveRefusal
fault_here (fault.Refused e) = refusal_here e
fault_here fault.NoMemory = refusal.NoMemory
