-- The head of a script: what its lines configure, up to the line `---`.
use Rattle.std.specs.Prelude.{◌≡◌, ℕ, ◌+◌, ◌^◌, ◌⊎◌, max, Bool, false, if◌then◌else◌, List, [], ◌∷◌, ◌++◌, length, codes, Option, Some, None, is_some, unwrap_or, Result, Ok, Err}
use Rattle.std.specs.Str.{bytes_eq}
use Rattle.nbd_base.specs.Words.{when_some}
use Rattle.nbd_commands.specs.Exports.{Export, Offer}
use Rattle.nbd_commands.specs.Refusals.{first_refusal, whole_refusal, is_outside}
use Rattle.nbd_commands.specs.declared.settings.Refusal.TheVariants.{BadInflight}
use Rattle.nbd_scripts.specs.declared.fault.LineFault.{LineFault}
use Rattle.nbd_scripts.specs.declared.fault.LineFault.TheVariants.{Form, Value}
use Rattle.nbd_scripts.specs.declared.fault.LineFault.TheVariants as fault
use Rattle.nbd_text.specs.Numbers.{number_below}
use Rattle.nbd_text.specs.Fields.{fields_in}
use Rattle.nbd_scripts.specs.Lines.{is_comment, lines_in, only, Begins}
use Rattle.nbd_scripts.specs.Settings.{spelled_export}
use Rattle.nbd_scripts.specs.Steps.{◌>>=◌, fault_in}

-- ---- a line of the head

-- what lines configure
pub record Plan : Type 0 where
  pub exports : List Export
  pub inflight : Option ℕ

abbrev pub no_plan : Plan
no_plan = record { exports = []; inflight = None }

-- an export behind those that there are, unless its values are refused
abbrev pub plan_with : Plan → Export → Result Plan LineFault
plan_with plan export =
    when_some (first_refusal plan.exports export) (λ refusal. Err (Value refusal)) (Ok (record plan { exports = plan.exports ++ export ∷ [] }))

-- behind `export`
unfoldable pub export_line : Plan → List (List ℕ) → Result Plan LineFault
export_line plan [] = Err Form
export_line plan (name ∷ []) = Err Form
export_line plan (name ∷ size ∷ settings) = when_some (spelled_export name size settings) (plan_with plan) (Err Form)

-- a number of requests in service, which may be said once
abbrev pub plan_within : Plan → ℕ → Result Plan LineFault
plan_within plan count =
    if is_some plan.inflight then Err Form
    else (if is_outside 4096 count then Err (Value BadInflight)
    else Ok (record plan { inflight = Some count }))

-- behind `inflight`
unfoldable pub inflight_line : Plan → List (List ℕ) → Result Plan LineFault
inflight_line plan fields = when_some (only fields >>= number_below (2 ^ 64)) (plan_within plan) (Err Form)

-- a line by its fields. One without fields says nothing
unfoldable pub plan_with_fields : Plan → List (List ℕ) → Result Plan LineFault
plan_with_fields plan [] = Ok plan
plan_with_fields plan (word ∷ fields) =
    if bytes_eq word (codes "export") then export_line plan fields
    else (if bytes_eq word (codes "inflight") then inflight_line plan fields
    else Err Form)

-- what is configured behind one line more, or why the line is refused
abbrev pub plan_after : Plan → List ℕ → Result Plan LineFault
plan_after plan line = if is_comment line then Ok plan else plan_with_fields plan (fields_in line)

-- ---- the whole head

abbrev pub is_end : List ℕ → Bool
is_end line = bytes_eq line (codes "---")

-- what a plan offers at its end, unless it is refused as a whole
abbrev pub offered : Plan → Result Offer LineFault
offered plan =
    when_some (whole_refusal plan.exports (unwrap_or plan.inflight 32)) (λ refusal. Err (Value refusal))
    (Ok (record { exports = plan.exports; inflight = unwrap_or plan.inflight 32 }))

-- lines of which none ends the head, and what they configure: each is taken behind those in front of it
pub data Configures : List (List ℕ) → Plan → Type 0 where
  nothing : Configures [] no_plan
  behind_line : (lines : List (List ℕ)) (line : List ℕ) (plan next : Plan) → Configures lines plan → is_end line ≡ false → plan_after plan line ≡ Ok next
      → Configures (lines ++ line ∷ []) next

-- why a line is refused behind others, if it is
abbrev pub line_fault : Plan → List ℕ → Option LineFault
line_fault plan line = if is_end line then fault_in (offered plan) else fault_in (plan_after plan line)

-- a script has a head of so many lines, the last of which ends it, and the body behind it
pub record HasHead (script : List ℕ) (offer : Offer) (above : ℕ) (body : List ℕ) : Type 0 where
  pub lines : List (List ℕ)
  pub plan : Plan
  pub begins : Begins script (lines ++ codes "---" ∷ []) body
  pub configures : Configures lines plan
  pub offers : offered plan ≡ Ok offer
  pub counted : above ≡ length lines + 1

-- the line of this number is refused, and none in front of it
pub record RefusesLine (script : List ℕ) (number : ℕ) (fault : LineFault) : Type 0 where
  pub lines : List (List ℕ)
  pub line : List ℕ
  pub more : List (List ℕ)
  pub plan : Plan
  pub are : lines_in script ≡ lines ++ line ∷ more
  pub configures : Configures lines plan
  pub refused : line_fault plan line ≡ Some fault
  pub counted : number ≡ length lines + 1

-- no line ends the head, and none is refused. The last is told, and the first of an empty script
pub record LacksEnd (script : List ℕ) (number : ℕ) : Type 0 where
  pub plan : Plan
  pub configures : Configures (lines_in script) plan
  pub counted : number ≡ max (length (lines_in script)) 1

-- the first refused line of a head, and why it is refused
abbrev pub HeadRefused : List ℕ → ℕ → LineFault → Type 0
HeadRefused script number Form = RefusesLine script number Form ⊎ LacksEnd script number
HeadRefused script number (Value refusal) = RefusesLine script number (Value refusal)
HeadRefused script number fault.NoMemory = ⊥
