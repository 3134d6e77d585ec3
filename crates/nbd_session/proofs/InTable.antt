-- An export that haggling enters is one of the table, where a session is always given.
use Rattle.std.proofs.Common.{◌≡◌, ℕ, Bool, true, false, List, [], ◌∷◌, Option, Some, None, refl, subst, get_or}
use Rattle.std.specs.Prelude.{slice_get, ◌==◌, if◌then◌else◌, length}
use Rattle.std.specs.List.{position}
use Rattle.std.specs.Str.{bytes_eq}
use Rattle.std.proofs.lemmas.List.Quantifiers.{position-Some}
use Rattle.std.proofs.lemmas.Option.{slice_get-get_or}
use Rattle.nbd_options.specs.declared.answers.Next.{Next}
use Rattle.nbd_options.specs.declared.answers.Next.TheVariants as nexts
use Rattle.nbd_options.specs.declared.attach.Attached.{Attached}
use Rattle.nbd_options.specs.declared.attach.Attached.TheVariants as attached
use Rattle.nbd_options.specs.declared.saying.HaggleEnd.{HaggleEnd}
use Rattle.nbd_options.specs.declared.saying.HaggleEnd.TheVariants as haggle_ends
use Rattle.nbd_options.specs.Exports.{ExportFacts, first_of, export_named}
use Rattle.nbd_options.specs.Replies.{ClientOption, ReplyMessage, is_shaped, name_in, by_name, gone_to, next_after, replies_to}
use Rattle.nbd_options.specs.Haggled.{Asked, said_by, said_to}
use Rattle.nbd_session.specs.declared.outcomes.Entry.{Entry}
use Rattle.nbd_session.specs.declared.outcomes.Entry.TheVariants as entries
use Rattle.nbd_session.specs.Options.{entry_after}

-- one of the table has this place
abbrev pub HasPlace : List ExportFacts → ℕ → Type 0
HasPlace table n = (e : ExportFacts) × (slice_get table n ≡ Some e)

-- no client is refused, and one that is in an export is in one of the table
abbrev pub IsIn : List ExportFacts → Entry → Type 0
IsIn table (entries.In n) = HasPlace table n
IsIn table (entries.Out end) = Unit {0}
IsIn table entries.Refused = ⊥

first_in : (table : List ExportFacts) (n : ℕ) → first_of table ≡ Some n → HasPlace table n
first_in [] n h = let e : None ≡ Some n = h in absurd (cc)
first_in (e ∷ es) n h =
    let zero_is : Some 0 ≡ Some n = h in
    let is : 0 ≡ n = cc in
    subst (HasPlace (e ∷ es)) is (e, refl)

found_in : (p : ExportFacts → Bool) (table : List ExportFacts) (n : ℕ) → position p table ≡ Some n → HasPlace table n
found_in p [] n h = let e : None ≡ Some n = h in absurd (cc)
found_in p (e ∷ es) n h = (get_or (e ∷ es) n e, slice_get-get_or (e ∷ es) n e (position-Some p (e ∷ es) n e h).0)

named_in : (table : List ExportFacts) (name : List ℕ) (n : ℕ) → export_named table name ≡ Some n → HasPlace table n
named_in table name n h = by (length name == 0) h
  where
    by : (b : Bool) → (if b then first_of table else position (λ e. bytes_eq e.name name) table) ≡ Some n → HasPlace table n
    by true first = first_in table n first
    by false found = found_in (λ e. bytes_eq e.name name) table n found

-- where an export is chosen it is one of the table
abbrev IsInNext : List ExportFacts → Next → Type 0
IsInNext table (nexts.Go n) = HasPlace table n
IsInNext table (nexts.ByName n) = HasPlace table n
IsInNext table nexts.Again = Unit {0}
IsInNext table nexts.Abort = Unit {0}
IsInNext table nexts.Close = Unit {0}

if_one : (P : Next → Type 0) (b : Bool) (x y : Next) → P x → P y → P (if b then x else y)
if_one P true x y p q = p
if_one P false x y p q = q

by_name_in : (table : List ExportFacts) (name : List ℕ) (o : Option ℕ) → export_named table name ≡ o → IsInNext table (by_name o)
by_name_in table name None h = tt
by_name_in table name (Some n) h = named_in table name n h

gone_to_in : (table : List ExportFacts) (name : List ℕ) (o : Option ℕ) → export_named table name ≡ o → IsInNext table (gone_to o)
gone_to_in table name None h = tt
gone_to_in table name (Some n) h = named_in table name n h

next_in : (table : List ExportFacts) (o : ClientOption) → IsInNext table (next_after table o)
next_in table o =
    if_one (IsInNext table) (o.number == 1) _ _ (by_name_in table o.content (export_named table o.content) refl)
    (if_one (IsInNext table) (o.number == 2) _ _ tt
    (if_one (IsInNext table) (o.number == 7) _ _
    (if_one (IsInNext table) (is_shaped o.content) _ _ (gone_to_in table (name_in o.content) (export_named table (name_in o.content)) refl) tt) tt))

ended_in : (table : List ExportFacts) (bare : Bool) (replies : List ReplyMessage) (next : Next) (end : HaggleEnd) → IsInNext table next
    → (said_by table bare replies next attached.Given).end ≡ Some end → IsIn table (entry_after end)
ended_in table bare replies (nexts.Go n) end is h =
    let e : Some (haggle_ends.Entered n) ≡ Some end = h in
    let same : haggle_ends.Entered n ≡ end = cc in
    subst (λ (x : HaggleEnd). IsIn table (entry_after x)) same is
ended_in table bare replies (nexts.ByName n) end is h =
    let e : Some (haggle_ends.Entered n) ≡ Some end = h in
    let same : haggle_ends.Entered n ≡ end = cc in
    subst (λ (x : HaggleEnd). IsIn table (entry_after x)) same is
ended_in table bare replies nexts.Again end is h = let e : None ≡ Some end = h in absurd (cc)
ended_in table bare replies nexts.Abort end is h =
    let e : Some haggle_ends.Aborted ≡ Some end = h in
    let same : haggle_ends.Aborted ≡ end = cc in
    subst (λ (x : HaggleEnd). IsIn table (entry_after x)) same tt
ended_in table bare replies nexts.Close end is h =
    let e : Some haggle_ends.NoExport ≡ Some end = h in
    let same : haggle_ends.NoExport ≡ end = cc in
    subst (λ (x : HaggleEnd). IsIn table (entry_after x)) same tt

pub inside_of : (table : List ExportFacts) (bare : Bool) (a : Asked) (end : HaggleEnd) → a.answer ≡ attached.Given → (said_to table bare a).end ≡ Some end → IsIn table (entry_after end)
inside_of table bare a end given h =
    ended_in table bare (replies_to table a.option) (next_after table a.option) end (next_in table a.option)
    (subst (λ (w : Attached). (said_by table bare (replies_to table a.option) (next_after table a.option) w).end ≡ Some end) given h)
