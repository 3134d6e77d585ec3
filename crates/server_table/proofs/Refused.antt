-- Events that find nothing: no such export, no such request, no memory.
use Rattle.std.proofs.Common.{◌≡◌, ℕ, zero, suc, ◌+◌, ◌<◌, ◌≤◌, Bool, true, false, None, List, [], ◌∷◌, ◌++◌, length, filter, find, get_or, refl, ◌∙◌, ap, arith}
use Rattle.std.specs.Prelude.{◌==◌, ◌^◌, nat_le, option_map, slice_get}
use Rattle.std.proofs.lemmas.Bool.Decides.{nat_tests}
use Rattle.std.proofs.lemmas.List.Elements.{filter-append}
use Rattle.nbd_wire.specs.Grammar.{RequestMessage}
use Rattle.reply_box.specs.Sessions.{is_here, is_open_at}
use Rattle.lone_export.specs.Alone.{outstanding}
use Rattle.server_table.specs.declared.event.Event.TheVariants.{Attach, Arrive, Perform, Take, Leave, Gone}
use Rattle.server_table.specs.declared.event.Answer.TheVariants.{NoExport, NotOut, NoMemory}
use Rattle.server_table.specs.Steps.{outcome, is_out_row, step}
use Rattle.server_table.specs.Parts.{Entry, Part, row_of, part_rows, rows_from, table_of, setup_of, alone_of}
use Rattle.server_table.proofs.Rows.{side_at, terms_at, found, filter_part}
use Rattle.server_table.proofs.Sides.{outstanding_at}
use Rattle.server_table.proofs.Perform.{out_at}

pub none_there : (ps : List Part) (inflight e : ℕ) → length ps ≤ e → slice_get (setup_of ps inflight).exports e ≡ None
none_there [] inflight e le = refl
none_there (x ∷ xs) inflight zero le = absurd (omega arith)
none_there (x ∷ xs) inflight (suc e) le = none_there xs inflight e (omega arith)

no_rows : (e n k : ℕ) (ps : List Part) → k + length ps ≤ e → filter (is_out_row e n) (rows_from k ps) ≡ []
no_rows e n k [] le = refl
no_rows e n k (p ∷ ps) le =
    filter-append (is_out_row e n) (part_rows k p) (rows_from (suc k) ps)
    ∙ ap (λ l. l ++ filter (is_out_row e n) (rows_from (suc k) ps)) (filter_part e (is_out_row e n) (λ row ne. grind (arith, nat_tests)) k p (omega arith))
    ∙ no_rows e n (suc k) ps (omega arith)

module _ {A : Type 0} where
  -- ---- there is no such export
  pub no_attach : (ps : List Part) (now inflight e : ℕ) (memory : Bool) → length ps ≤ e → step {A = A} (setup_of ps inflight) (table_of ps now) (Attach e) memory ≡ outcome (table_of ps now) NoExport
  no_attach ps now inflight e memory le = rw (none_there ps inflight e le) refl

  pub no_arrive : (ps : List Part) (now inflight e s t : ℕ) (q : RequestMessage) (memory : Bool) → length ps ≤ e → step {A = A} (setup_of ps inflight) (table_of ps now) (Arrive e s t q) memory ≡ outcome (table_of ps now) NoExport
  no_arrive ps now inflight e s t q memory le = rw (none_there ps inflight e le) refl

  pub no_take : (ps : List Part) (now inflight e s : ℕ) (memory : Bool) → length ps ≤ e → step {A = A} (setup_of ps inflight) (table_of ps now) (Take e s) memory ≡ outcome (table_of ps now) NoExport
  no_take ps now inflight e s memory le = rw (none_there ps inflight e le) refl

  pub no_leave : (ps : List Part) (now inflight e s : ℕ) (memory : Bool) → length ps ≤ e → step {A = A} (setup_of ps inflight) (table_of ps now) (Leave e s) memory ≡ outcome (table_of ps now) NoExport
  no_leave ps now inflight e s memory le = rw (none_there ps inflight e le) refl

  pub no_gone : (ps : List Part) (now inflight e s : ℕ) (memory : Bool) → length ps ≤ e → step {A = A} (setup_of ps inflight) (table_of ps now) (Gone e s) memory ≡ outcome (table_of ps now) NoExport
  no_gone ps now inflight e s memory le = rw (none_there ps inflight e le) refl

  -- ---- there is no such request in service
  missing : (ps : List Part) (now inflight e n : ℕ) (memory : Bool) → find (is_out_row e n) (rows_from 0 ps) ≡ None → step {A = A} (setup_of ps inflight) (table_of ps now) (Perform e n) memory ≡ outcome (table_of ps now) NotOut
  missing ps now inflight e n memory none = rw none refl

  pub not_out : (ps : List Part) (now inflight e n : ℕ) (memory : Bool) (p : Part) → e < length ps → p ≡ get_or ps e p → find (λ (entry : Entry). entry.number == n) p.out ≡ None →
      step {A = A} (setup_of ps inflight) (table_of ps now) (Perform e n) memory ≡ outcome (table_of ps now) NotOut
  not_out ps now inflight e n memory p lt at none = missing ps now inflight e n memory (out_at ps e n p lt at ∙ ap (option_map (row_of e true)) none)

  pub no_perform : (ps : List Part) (now inflight e n : ℕ) (memory : Bool) → length ps ≤ e → step {A = A} (setup_of ps inflight) (table_of ps now) (Perform e n) memory ≡ outcome (table_of ps now) NotOut
  no_perform ps now inflight e n memory le = missing ps now inflight e n memory (found (is_out_row e n) (rows_from 0 ps) ∙ ap (λ l. slice_get l 0) (no_rows e n 0 ps (omega arith)))

  -- ---- no memory was there
  pub no_room_to_attach : (ps : List Part) (now inflight e : ℕ) (p : Part) → e < length ps → p ≡ get_or ps e p → nat_le (2 ^ 56) p.count ≡ false → (length (filter is_here p.sessions) == 64) ≡ false →
      step {A = A} (setup_of ps inflight) (table_of ps now) (Attach e) false ≡ outcome (table_of ps now) NoMemory
  no_room_to_attach ps now inflight e p lt at young few = rw (terms_at ps inflight e p lt at, side_at ps now e p lt at, young, few) refl

  pub no_room_to_arrive : (ps : List Part) (now inflight e s t : ℕ) (q : RequestMessage) (p : Part) → e < length ps → p ≡ get_or ps e p → is_open_at p.sessions s ≡ true → nat_le (2 ^ 56) p.count ≡ false → (outstanding (alone_of p) s == p.terms.window) ≡ false →
      step {A = A} (setup_of ps inflight) (table_of ps now) (Arrive e s t q) false ≡ outcome (table_of ps now) NoMemory
  no_room_to_arrive ps now inflight e s t q p lt at is_open young spare =
      rw (terms_at ps inflight e p lt at, outstanding_at ps now e s p lt at, side_at ps now e p lt at, is_open, young, spare) refl
