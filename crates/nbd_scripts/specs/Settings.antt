-- The settings of an export's line, and the export that the line says.
use Rattle.std.specs.Prelude.{ℕ, ◌+◌, ◌^◌, ◌==◌, Bool, true, if◌then◌else◌, List, [], ◌∷◌, length, take, drop, codes, Option, Some, None, unwrap_or, option_map, position}
use Rattle.std.specs.Str.{bytes_eq}
use Rattle.nbd_commands.specs.Exports.{Export, plain_export}
use Rattle.nbd_text.specs.Numbers.{number_below}
use Rattle.nbd_scripts.specs.Steps.{◌>>=◌}

-- those that are written so far, behind the size
pub record Settings : Type 0 where
  pub description : Option (List ℕ)
  pub read_only : Option Bool
  pub reservation : Option ℕ
  pub limit : Option ℕ
  pub weight : Option ℕ
  pub depth : Option ℕ
  pub window : Option ℕ

abbrev pub no_settings : Settings
no_settings = record { description = None; read_only = None; reservation = None; limit = None; weight = None; depth = None; window = None }

-- a setting that may be written once
abbrev pub once : {X : Type 0} → Option X → X → Option (Option X)
once None value = Some (Some value)
once (Some before) value = None

-- the same of a number in decimal digits
abbrev pub number_once : Option ℕ → List ℕ → Option (Option ℕ)
number_once before digits = number_below (2 ^ 64) digits >>= once before

-- with the value of this key
unfoldable pub with_value : Settings → List ℕ → List ℕ → Option Settings
with_value s key value =
    if bytes_eq key (codes "desc") then option_map (λ d. record s { description = d }) (once s.description value)
    else (if bytes_eq key (codes "r") then option_map (λ n. record s { reservation = n }) (number_once s.reservation value)
    else (if bytes_eq key (codes "l") then option_map (λ n. record s { limit = n }) (number_once s.limit value)
    else (if bytes_eq key (codes "w") then option_map (λ n. record s { weight = n }) (number_once s.weight value)
    else (if bytes_eq key (codes "depth") then option_map (λ n. record s { depth = n }) (number_once s.depth value)
    else (if bytes_eq key (codes "window") then option_map (λ n. record s { window = n }) (number_once s.window value)
    else None)))))

-- what stands before the first `=` of a text, and behind it
abbrev pub key_and_value : List ℕ → Option (List ℕ × List ℕ)
key_and_value text = option_map (λ at. (take at text, drop (at + 1) text)) (position (λ byte. byte == 61) text)

-- with one setting more: `ro`, or a key and a value
unfoldable pub with_setting : Settings → List ℕ → Option Settings
with_setting s field =
    if bytes_eq field (codes "ro") then option_map (λ b. record s { read_only = b }) (once s.read_only true)
    else (key_and_value field >>= (λ pair. with_value s pair.0 pair.1))

unfoldable pub with_settings : Settings → List (List ℕ) → Option Settings
with_settings s [] = Some s
with_settings s (field ∷ more) = with_setting s field >>= (λ next. with_settings next more)

-- a plain export with these settings
abbrev pub settled : Export → Settings → Export
settled plain s = record {
  name = plain.name;
  description = s.description;
  size = plain.size;
  read_only = unwrap_or s.read_only plain.read_only;
  reservation = unwrap_or s.reservation plain.reservation;
  limit = unwrap_or s.limit plain.limit;
  weight = unwrap_or s.weight plain.weight;
  depth = unwrap_or s.depth plain.depth;
  window = unwrap_or s.window plain.window;
}

-- what stands behind this beginning of a text
abbrev pub stripped : List ℕ → List ℕ → Option (List ℕ)
stripped front text = if bytes_eq (take (length front) text) front then Some (drop (length front) text) else None

-- the export that `NAME size=N` and settings behind it say
unfoldable pub spelled_export : List ℕ → List ℕ → List (List ℕ) → Option Export
spelled_export name size settings = do
  digits ← stripped (codes "size=") size
  bytes ← number_below (2 ^ 64) digits
  s ← with_settings no_settings settings
  Some (settled (plain_export name bytes) s)
