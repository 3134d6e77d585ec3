-- To the same options, with sessions always given, one text is said, and haggling ends in one way and place.
use Rattle.std.proofs.Common.{◌≡◌, ℕ, ◌+◌, ◌^◌, ◌<◌, ◌≤◌, ◌⊎◌, Bool, cond, ltb, List, [], ◌∷◌, ◌++◌, Option, Some, None, length, take, drop, refl, sym, ap, subst, ◌∙◌, arith, inl, inr, append_assoc, add-zero}
use Rattle.std.specs.List.{flat_map, AllByRecursion}
use Rattle.std.proofs.lemmas.Bool.{cond-true, cond-false, lt-ltb, le-ltb}
use Rattle.std.proofs.lemmas.List.{drop_at, take_at, length-append, append-nil}
use Rattle.nbd_wire.specs.Grammar.{option_head_text, option_text}
use Rattle.nbd_wire.proofs.HeadLemmas.{length-option_head_text}
use Rattle.nbd_wire.proofs.OptionPlaces.{one_option_head}
use Rattle.nbd_options.specs.declared.answers.Next.{Next}
use Rattle.nbd_options.specs.declared.answers.Next.TheVariants as nexts
use Rattle.nbd_options.specs.declared.attach.Attached.{Attached}
use Rattle.nbd_options.specs.declared.attach.Attached.TheVariants as attached
use Rattle.nbd_options.specs.declared.saying.HaggleEnd.{HaggleEnd}
use Rattle.nbd_options.specs.Exports.{ExportFacts}
use Rattle.nbd_options.specs.Replies.{ClientOption, next_after}
use Rattle.nbd_options.specs.Haggled.{Asked, Said, said_to, ends_by, head_fault, told_length}
use Rattle.nbd_options.specs.declared.haggle.HeadFault.{HeadFault}
use Rattle.nbd_options.specs.declared.haggle.HeadFault.TheVariants as faults
use Rattle.nbd_options.proofs.HeadLemmas.{taken}
use Rattle.nbd_session.specs.declared.outcomes.End.{End}
use Rattle.nbd_session.specs.declared.outcomes.End.TheVariants as ends
use Rattle.nbd_session.specs.declared.outcomes.Entry.{Entry}
use Rattle.nbd_session.specs.declared.outcomes.Entry.TheVariants as entries
use Rattle.nbd_session.specs.Options.{asked_text, text_to, MayAnswer, IsAsked, GoesOn, OptionStops, HeadStops, StopsAt, Leaves, Haggles, entry_after, fault_end}
use Rattle.nbd_session.specs.Conversation.{IsGiven}
use Rattle.nbd_session.proofs.OneService.{one_end, no_end}
use Rattle.nbd_session.proofs.OfferLemmas.{long_head, first_head, told_first}

-- ---- the end at an option's place

-- by what is found of a whole head, and whether less data follows than it tells
abbrev by_fault : Option HeadFault → Bool → Option End
by_fault (Some fault) short = Some (fault_end fault)
by_fault None short = cond short (Some ends.Cut) None

abbrev behind_head : ℕ → List ℕ → Option End
behind_head seen bytes = by_fault (head_fault seen (take 16 bytes)) (ltb (length bytes) (16 + told_length (take 16 bytes)))

abbrev option_stop_of : ℕ → List ℕ → Option End
option_stop_of seen [] = Some ends.Over
option_stop_of seen (b ∷ bytes) = cond (ltb (length (b ∷ bytes)) 16) (Some ends.Cut) (behind_head seen (b ∷ bytes))

option_stop_behind : (seen : ℕ) (bytes : List ℕ) → 0 < length bytes → option_stop_of seen bytes ≡ cond (ltb (length bytes) 16) (Some ends.Cut) (behind_head seen bytes)
option_stop_behind seen [] lt = absurd (omega (arith, lt))
option_stop_behind seen (b ∷ bytes) lt = refl

option_stop_head : (seen : ℕ) (bytes : List ℕ) → 16 ≤ length bytes → option_stop_of seen bytes ≡ behind_head seen bytes
option_stop_head seen bytes long = option_stop_behind seen bytes (omega (arith, long)) ∙ cond-false (ltb (length bytes) 16) _ _ (le-ltb _ _ long)

head_stopped : (seen : ℕ) (bytes : List ℕ) (fault : HeadFault) → HeadStops seen bytes fault → option_stop_of seen bytes ≡ Some (fault_end fault)
head_stopped seen bytes fault h = option_stop_head seen bytes h.0 ∙ ap (λ (o : Option HeadFault). by_fault o (ltb (length bytes) (16 + told_length (take 16 bytes)))) h.1

fine_head : (seen : ℕ) (bytes : List ℕ) → 16 ≤ length bytes → head_fault seen (take 16 bytes) ≡ None → option_stop_of seen bytes ≡ cond (ltb (length bytes) (16 + told_length (take 16 bytes))) (Some ends.Cut) None
fine_head seen bytes long fine = option_stop_head seen bytes long ∙ ap (λ (o : Option HeadFault). by_fault o (ltb (length bytes) (16 + told_length (take 16 bytes)))) fine

option_stopped : (seen : ℕ) (bytes : List ℕ) (e : End) → OptionStops seen bytes e → option_stop_of seen bytes ≡ Some e
option_stopped seen bytes ends.Over h = ap (option_stop_of seen) h
option_stopped seen bytes ends.Cut (lt, inl short) = option_stop_behind seen bytes lt ∙ cond-true (ltb (length bytes) 16) _ _ (lt-ltb _ _ short)
option_stopped seen bytes ends.Cut (lt, inr (long, fine, part)) = fine_head seen bytes long fine ∙ cond-true (ltb (length bytes) (16 + told_length (take 16 bytes))) _ _ (lt-ltb _ _ part)
option_stopped seen bytes ends.BadMagic h = head_stopped seen bytes faults.BadMagic h
option_stopped seen bytes ends.TooMany h = head_stopped seen bytes faults.TooMany h
option_stopped seen bytes ends.TooLong h = head_stopped seen bytes faults.TooLong h
option_stopped seen bytes ends.Disc h = absurd h
option_stopped seen bytes ends.Abort h = absurd h
option_stopped seen bytes ends.NoExport h = absurd h
option_stopped seen bytes ends.BadFlags h = absurd h
option_stopped seen bytes ends.Worn h = absurd h

-- the text of an option, and its bounds
abbrev text_of : ClientOption → List ℕ
text_of o = option_text o.number o.content

record IsOption (o : ClientOption) : Type 0 where
  pub number : o.number < 2 ^ 32
  pub short : length o.content ≤ 65536

is_option : (may : ℕ → Attached → Type 0) (table : List ExportFacts) (a : Asked) → IsAsked may table a → IsOption a.option
is_option may table a p = record { number = p.number; short = p.short }

option_goes_by : (seen : ℕ) (o : ClientOption) (more : List ℕ) → IsOption o → seen < 1000 → option_stop_of seen (text_of o ++ more) ≡ None
option_goes_by seen o more p few =
    let number = o.number in
    let count = length o.content in
    let behind = o.content ++ more in
    let long = long_head number count behind in
    let told : told_length (take 16 (option_head_text number count ++ behind)) ≡ count = told_first number count behind (omega (arith, p.short)) in
    let fine = taken seen (take 16 (option_head_text number count ++ behind)) number count (first_head number count behind) (omega (arith, p.short)) few p.short in
    ap (option_stop_of seen) (append_assoc (option_head_text number count) o.content more)
    ∙ (fine_head seen (option_head_text number count ++ behind) long fine
    ∙ cond-false (ltb (length (option_head_text number count ++ behind)) (16 + told_length (take 16 (option_head_text number count ++ behind)))) _ _
    (le-ltb _ _ (omega (arith, told, length-append (option_head_text number count) behind, length-append o.content more, length-option_head_text number count))))

option_not_both : (seen : ℕ) (o : ClientOption) (more : List ℕ) (e : End) → IsOption o → seen < 1000 → OptionStops seen (text_of o ++ more) e → ⊥
option_not_both seen o more e p few h = no_end (option_stop_of seen (text_of o ++ more)) e (option_goes_by seen o more p few) (option_stopped seen (text_of o ++ more) e h)

abbrev made : ℕ → List ℕ → ClientOption
made n c = record { number = n; content = c }

one_option : (a b : ClientOption) (x y : List ℕ) → IsOption a → IsOption b → text_of a ++ x ≡ text_of b ++ y → (a ≡ b) × (x ≡ y)
one_option a b x y p q e =
    let heads = one_option_head a.number (length a.content) b.number (length b.content) (a.content ++ x) (b.content ++ y) p.number (omega (arith, p.short)) q.number (omega (arith, q.short))
    (sym (append_assoc (option_head_text a.number (length a.content)) a.content x) ∙ (e ∙ append_assoc (option_head_text b.number (length b.content)) b.content y)) in
    let len : length a.content ≡ length b.content = heads.1 in
    let front : a.content ≡ b.content = sym (take_at a.content x (length a.content) refl) ∙ (ap (λ (t : List ℕ). take (length a.content) t) heads.2 ∙ take_at b.content y (length a.content) (sym len)) in
    let back : x ≡ y = sym (drop_at a.content x (length a.content) refl) ∙ (ap (λ (t : List ℕ). drop (length a.content) t) heads.2 ∙ drop_at b.content y (length a.content) (sym len)) in
    let same : made a.number a.content ≡ made b.number b.content = rw (heads.0, front) refl in
    (same, back)

-- ---- the options

-- where sessions are always given, an option is asked in one way
pub given_of : (next : Next) (answer : Attached) → MayAnswer IsGiven next answer → answer ≡ attached.Given
given_of (nexts.Go n) answer h = h
given_of (nexts.ByName n) answer h = h
given_of nexts.Again answer h = h
given_of nexts.Abort answer h = h
given_of nexts.Close answer h = h

asked_as : ClientOption → Attached → Asked
asked_as o answer = record { option = o; answer = answer }

-- the client is in an export
abbrev pub IsInside : Entry → Type 0
IsInside (entries.In n) = Unit {0}
IsInside (entries.Out end) = ⊥
IsInside entries.Refused = ⊥

-- more is said to more bytes; where the client was in an export, all is as it was, and more is left
pub record SaysMore (t u : List ℕ) (e f : Entry) (x y more : List ℕ) : Type 0 where
  pub later : List ℕ
  pub said : u ≡ t ++ later
  pub inside : IsInside e → (later ≡ []) × (f ≡ e) × (y ≡ x ++ more)

module _ (table : List ExportFacts) (bare : Bool) where
  abbrev Goes : Asked → Type 0
  Goes a = GoesOn IsGiven table bare a

  one_asked : (a b : Asked) (x y : List ℕ) → IsAsked IsGiven table a → IsAsked IsGiven table b → asked_text a ++ x ≡ asked_text b ++ y → (a ≡ b) × (x ≡ y)
  one_asked a b x y p q e =
      let one = one_option a.option b.option x y (is_option IsGiven table a p) (is_option IsGiven table b q) e in
      let answer : a.answer ≡ b.answer = given_of (next_after table a.option) a.answer p.answer ∙ sym (given_of (next_after table b.option) b.answer q.answer) in
      let made_of : ClientOption → Attached → Asked = λ o w. record { option = o; answer = w } in
      let same : made_of a.option a.answer ≡ made_of b.option b.answer = rw (one.0, answer) refl in
      (same, one.1)

  -- what comes behind the options behind which haggling goes on
  abbrev Comes : ℕ → List ℕ → List ℕ → Entry → List ℕ → Type 0
  Comes seen behind text entry rest = ((text ≡ []) × (rest ≡ behind) × StopsAt seen behind entry) ⊎ Leaves IsGiven table bare seen behind text entry rest

  one_stop : (seen : ℕ) (behind : List ℕ) (e f : Entry) → StopsAt seen behind e → StopsAt seen behind f → e ≡ f
  one_stop seen behind (entries.Out e) (entries.Out f) a b = ap (λ (x : End). entries.Out x) (one_end (option_stop_of seen behind) e f (option_stopped seen behind e a) (option_stopped seen behind f b))
  one_stop seen behind (entries.Out e) (entries.In n) a b = absurd b
  one_stop seen behind (entries.Out e) entries.Refused a b = absurd b
  one_stop seen behind (entries.In n) f a b = absurd a
  one_stop seen behind entries.Refused f a b = absurd a

  stop_not_option : (seen : ℕ) (a : Asked) (more behind : List ℕ) (e : Entry) → IsAsked IsGiven table a → seen < 1000 → behind ≡ asked_text a ++ more → StopsAt seen behind e → ⊥
  stop_not_option seen a more behind (entries.Out e) p few is h =
      option_not_both seen a.option more e (is_option IsGiven table a p) few (subst (λ (r : List ℕ). OptionStops seen r e) is h)
  stop_not_option seen a more behind (entries.In n) p few is h = absurd h
  stop_not_option seen a more behind entries.Refused p few is h = absurd h

  same_end : (text u : List ℕ) (e f : HaggleEnd) → ends_by text e ≡ ends_by u f → (text ≡ u) × (e ≡ f)
  same_end text u e f is =
      let both : Some e ≡ Some f = ap (λ (s : Said). s.end) is in
      (ap (λ (s : Said). s.text) is, (cc))

  one_coming : (seen : ℕ) (behind t u : List ℕ) (e f : Entry) (r q : List ℕ) → Comes seen behind t e r → Comes seen behind u f q → (t ≡ u) × (e ≡ f) × (r ≡ q)
  one_coming seen behind t u e f r q (inl a) (inl b) = (a.0 ∙ sym b.0, one_stop seen behind e f a.2 b.2, a.1 ∙ sym b.1)
  one_coming seen behind t u e f r q (inl a) (inr b) = absurd (stop_not_option seen b.last q behind e b.asked b.few b.spelled a.2)
  one_coming seen behind t u e f r q (inr a) (inl b) = absurd (stop_not_option seen a.last r behind f a.asked a.few a.spelled b.2)
  one_coming seen behind t u e f r q (inr a) (inr b) =
      let one = one_asked a.last b.last r q a.asked b.asked (sym a.spelled ∙ b.spelled) in
      let ended = same_end t u a.end b.end (sym a.said ∙ (ap (λ (x : Asked). said_to table bare x) one.0 ∙ b.said)) in
      (ended.0, a.is ∙ (ap entry_after ended.1 ∙ sym b.is), one.1)

  -- an option behind which haggling goes on isn't what ends it
  no_coming : (seen : ℕ) (o : Asked) (more behind text : List ℕ) (e : Entry) (rest : List ℕ) → Goes o → seen < 1000 → behind ≡ asked_text o ++ more → Comes seen behind text e rest → ⊥
  no_coming seen o more behind text e rest p few is (inl a) = stop_not_option seen o more behind e p.asked few is a.2
  no_coming seen o more behind text e rest p few is (inr a) =
      let one = one_asked o a.last more rest p.asked a.asked (sym is ∙ a.spelled) in
      let on : None ≡ Some a.end = sym p.on ∙ (ap (λ (x : Asked). (said_to table bare x).end) one.0 ∙ ap (λ (s : Said). s.end) a.said) in
      cc

  one_row : (os ns : List Asked) (seen : ℕ) (r q t u : List ℕ) (e f : Entry) (x y : List ℕ) → flat_map asked_text os ++ r ≡ flat_map asked_text ns ++ q
      → AllByRecursion (GoesOn IsGiven table bare) os → AllByRecursion (GoesOn IsGiven table bare) ns → seen + length os ≤ 1000 → seen + length ns ≤ 1000
      → Comes (seen + length os) r t e x → Comes (seen + length ns) q u f y
      → (flat_map (text_to table bare) os ++ t ≡ flat_map (text_to table bare) ns ++ u) × (e ≡ f) × (x ≡ y)
  one_row [] [] seen r q t u e f x y same a b m n g h =
      one_coming (seen + 0) r t u e f x y g (subst (λ (k : List ℕ). Comes (seen + 0) k u f y) (sym same) h)
  one_row [] (o ∷ ns) seen r q t u e f x y same a b m n g h =
      absurd (no_coming seen o (flat_map asked_text ns ++ q) r t e x b.0 (omega (arith, n)) (same ∙ append_assoc (asked_text o) (flat_map asked_text ns) q) (subst (λ (k : ℕ). Comes k r t e x) (add-zero seen) g))
  one_row (o ∷ os) [] seen r q t u e f x y same a b m n g h =
      absurd (no_coming seen o (flat_map asked_text os ++ r) q u f y a.0 (omega (arith, m)) (sym same ∙ append_assoc (asked_text o) (flat_map asked_text os) r) (subst (λ (k : ℕ). Comes k q u f y) (add-zero seen) h))
  one_row (o ∷ os) (k ∷ ns) seen r q t u e f x y same a b m n g h =
      let one = one_asked o k (flat_map asked_text os ++ r) (flat_map asked_text ns ++ q) a.0.asked b.0.asked
      (sym (append_assoc (asked_text o) (flat_map asked_text os) r) ∙ (same ∙ append_assoc (asked_text k) (flat_map asked_text ns) q)) in
      let left : seen + length (o ∷ os) ≡ (seen + 1) + length os = omega arith in
      let right : seen + length (k ∷ ns) ≡ (seen + 1) + length ns = omega arith in
      let tail = one_row os ns (seen + 1) r q t u e f x y one.1 a.1 b.1 (omega (arith, m)) (omega (arith, n)) (subst (λ (i : ℕ). Comes i r t e x) left g) (subst (λ (i : ℕ). Comes i q u f y) right h) in (
        append_assoc (text_to table bare o) (flat_map (text_to table bare) os) t
            ∙ (ap (λ (i : List ℕ). text_to table bare o ++ i) tail.0
            ∙ (ap (λ (i : Asked). text_to table bare i ++ (flat_map (text_to table bare) ns ++ u)) one.0
            ∙ sym (append_assoc (text_to table bare k) (flat_map (text_to table bare) ns) u))),
        tail.1,
        tail.2,
      )

  pub one_haggling : (seen : ℕ) (bytes t u : List ℕ) (e f : Entry) (x y : List ℕ) → Haggles IsGiven table bare seen bytes t e x → Haggles IsGiven table bare seen bytes u f y → (t ≡ u) × (e ≡ f) × (x ≡ y)
  one_haggling seen bytes t u e f x y a b =
      let one = one_row a.options b.options seen a.behind b.behind a.later b.later e f x y (sym a.spelled ∙ b.spelled) a.each b.each a.few b.few a.ends b.ends in
      (a.said ∙ (one.0 ∙ sym b.said), one.1, one.2)

  -- ---- to a beginning of the options

  stop_outside : (seen : ℕ) (behind : List ℕ) (e : Entry) → StopsAt seen behind e → IsInside e → ⊥
  stop_outside seen behind (entries.Out e) h i = i
  stop_outside seen behind (entries.In n) h i = h
  stop_outside seen behind entries.Refused h i = h

  more_leaving : (ns : List Asked) (seen : ℕ) (r q t u : List ℕ) (e f : Entry) (x y more : List ℕ) → r ++ more ≡ flat_map asked_text ns ++ q
      → Leaves IsGiven table bare seen r t e x → AllByRecursion (GoesOn IsGiven table bare) ns → Comes (seen + length ns) q u f y
      → SaysMore t (flat_map (text_to table bare) ns ++ u) e f x y more
  more_leaving [] seen r q t u e f x y more same g b h = by (subst (λ (k : ℕ). Comes k q u f y) (add-zero seen) h)
    where
      spelled : q ≡ asked_text g.last ++ (x ++ more)
      spelled = sym same ∙ (ap (λ (k : List ℕ). k ++ more) g.spelled ∙ append_assoc (asked_text g.last) x more)

      by : Comes seen q u f y → SaysMore t u e f x y more
      by (inl stop) = absurd (stop_not_option seen g.last (x ++ more) q f g.asked g.few spelled stop.2)
      by (inr l) =
          let one = one_asked g.last l.last (x ++ more) y g.asked l.asked (sym spelled ∙ l.spelled) in
          let ended = same_end t u g.end l.end (sym g.said ∙ (ap (λ (k : Asked). said_to table bare k) one.0 ∙ l.said)) in
          record {
            later = [];
            said = sym ended.0 ∙ sym (append-nil t);
            inside = λ _. (refl, l.is ∙ (ap entry_after (sym ended.1) ∙ sym g.is), sym one.1);
          }
  more_leaving (o ∷ ns) seen r q t u e f x y more same g b h =
      let spelled : asked_text g.last ++ (x ++ more) ≡ asked_text o ++ (flat_map asked_text ns ++ q) =
      sym (append_assoc (asked_text g.last) x more) ∙ (ap (λ (k : List ℕ). k ++ more) (sym g.spelled) ∙ (same ∙ append_assoc (asked_text o) (flat_map asked_text ns) q)) in
      let one = one_asked g.last o (x ++ more) (flat_map asked_text ns ++ q) g.asked b.0.asked spelled in
      let on : None ≡ Some g.end = sym b.0.on ∙ (ap (λ (k : Asked). (said_to table bare k).end) (sym one.0) ∙ ap (λ (s : Said). s.end) g.said) in
      absurd (cc)

  more_row : (os ns : List Asked) (seen : ℕ) (r q t u : List ℕ) (e f : Entry) (x y more : List ℕ) → (flat_map asked_text os ++ r) ++ more ≡ flat_map asked_text ns ++ q
      → AllByRecursion (GoesOn IsGiven table bare) os → AllByRecursion (GoesOn IsGiven table bare) ns → seen + length os ≤ 1000 → seen + length ns ≤ 1000
      → Comes (seen + length os) r t e x → Comes (seen + length ns) q u f y
      → SaysMore (flat_map (text_to table bare) os ++ t) (flat_map (text_to table bare) ns ++ u) e f x y more
  more_row [] ns seen r q t u e f x y more same a b m n (inl g) h = record {
    later = flat_map (text_to table bare) ns ++ u;
    said = ap (λ (k : List ℕ). k ++ (flat_map (text_to table bare) ns ++ u)) (sym g.0);
    inside = λ i. absurd (stop_outside (seen + 0) r e g.2 i);
  }
  more_row [] ns seen r q t u e f x y more same a b m n (inr g) h =
      more_leaving ns seen r q t u e f x y more same (subst (λ (k : ℕ). Leaves IsGiven table bare k r t e x) (add-zero seen) g) b h
  more_row (o ∷ os) [] seen r q t u e f x y more same a b m n g h =
      absurd (no_coming seen o ((flat_map asked_text os ++ r) ++ more) q u f y a.0 (omega (arith, m))
      (sym same ∙ (ap (λ (k : List ℕ). k ++ more) (append_assoc (asked_text o) (flat_map asked_text os) r) ∙ append_assoc (asked_text o) (flat_map asked_text os ++ r) more))
      (subst (λ (k : ℕ). Comes k q u f y) (add-zero seen) h))
  more_row (o ∷ os) (k ∷ ns) seen r q t u e f x y more same a b m n g h =
      let one = one_asked o k ((flat_map asked_text os ++ r) ++ more) (flat_map asked_text ns ++ q) a.0.asked b.0.asked
      (sym (append_assoc (asked_text o) (flat_map asked_text os ++ r) more) ∙ (ap (λ (i : List ℕ). i ++ more) (sym (append_assoc (asked_text o) (flat_map asked_text os) r))
      ∙ (same ∙ append_assoc (asked_text k) (flat_map asked_text ns) q))) in
      let left : seen + length (o ∷ os) ≡ (seen + 1) + length os = omega arith in
      let right : seen + length (k ∷ ns) ≡ (seen + 1) + length ns = omega arith in
      let tail = more_row os ns (seen + 1) r q t u e f x y more one.1 a.1 b.1 (omega (arith, m)) (omega (arith, n)) (subst (λ (i : ℕ). Comes i r t e x) left g) (subst (λ (i : ℕ). Comes i q u f y) right h) in
      record {
        later = tail.later;
        said = append_assoc (text_to table bare k) (flat_map (text_to table bare) ns) u
            ∙ (ap (λ (i : Asked). text_to table bare i ++ (flat_map (text_to table bare) ns ++ u)) (sym one.0)
            ∙ (ap (λ (i : List ℕ). text_to table bare o ++ i) tail.said
            ∙ (sym (append_assoc (text_to table bare o) (flat_map (text_to table bare) os ++ t) tail.later)
            ∙ ap (λ (i : List ℕ). i ++ tail.later) (sym (append_assoc (text_to table bare o) (flat_map (text_to table bare) os) t)))));
        inside = tail.inside;
      }

  pub more_haggling : (seen : ℕ) (bytes more t u : List ℕ) (e f : Entry) (x y : List ℕ) → Haggles IsGiven table bare seen bytes t e x → Haggles IsGiven table bare seen (bytes ++ more) u f y
      → SaysMore t u e f x y more
  more_haggling seen bytes more t u e f x y a b =
      let go = more_row a.options b.options seen a.behind b.behind a.later b.later e f x y more (ap (λ (k : List ℕ). k ++ more) (sym a.spelled) ∙ b.spelled) a.each b.each a.few b.few a.ends b.ends in
      record {
        later = go.later;
        said = b.said ∙ (go.said ∙ ap (λ (k : List ℕ). k ++ go.later) (sym a.said));
        inside = go.inside;
      }
