-- To the same bytes one text is said, and one end comes; and the text to a beginning of them is a beginning of it.
use Rattle.std.proofs.Common.{◌≡◌, ℕ, ◌+◌, ◌^◌, ◌<◌, Bool, cond, ltb, List, [], ◌∷◌, ◌++◌, Option, Some, None, map, length, take, refl, sym, ap, subst, ◌∙◌, arith, inl, inr, append_assoc}
use Rattle.std.specs.Prelude.{slice_get}
use Rattle.std.specs.Int.{w32, from_be_bytes, to_be_bytes}
use Rattle.std.proofs.lemmas.Bool.{cond-true, cond-false, lt-ltb, le-ltb}
use Rattle.std.proofs.lemmas.List.{length-append, append-nil}
use Rattle.nbd_wire.proofs.FieldLemmas.{wide32}
use Rattle.nbd_wire.proofs.OptionPlaces.{one_word}
use Rattle.nbd_commands.specs.Exports.{Export}
use Rattle.nbd_commands.specs.Terms.{terms_of}
use Rattle.nbd_options.specs.Exports.{ExportFacts}
use Rattle.nbd_options.specs.Haggled.{greeting_text, wants_no_zeroes}
use Rattle.nbd_session.specs.declared.outcomes.End.{End}
use Rattle.nbd_session.specs.declared.outcomes.End.TheVariants as ends
use Rattle.nbd_session.specs.declared.outcomes.Entry.{Entry}
use Rattle.nbd_session.specs.declared.outcomes.Entry.TheVariants as entries
use Rattle.nbd_session.specs.Requests.{opened}
use Rattle.nbd_session.specs.Options.{Haggles}
use Rattle.nbd_session.specs.Conversation.{FlagsStop, HasFlags, Greeted, Shaken, IsGiven, facts_of, ServesAt, Continues, Talked}
use Rattle.nbd_session.proofs.OneService.{one_serving, more_serving, no_end, one_end}
use Rattle.nbd_session.proofs.OneHaggling.{IsInside, SaysMore, one_haggling, more_haggling}

-- ---- the client's flags

length_word : (n : ℕ) (more : List ℕ) → length (to_be_bytes w32 n ++ more) ≡ 4 + length more
length_word n more = length-append (to_be_bytes w32 n) more

abbrev by_flags : Option Bool → Option End
by_flags None = Some ends.BadFlags
by_flags (Some bare) = None

abbrev flag_stop_of : List ℕ → Option End
flag_stop_of [] = Some ends.Over
flag_stop_of (b ∷ bytes) = cond (ltb (length (b ∷ bytes)) 4) (Some ends.Cut) (by_flags (wants_no_zeroes (from_be_bytes w32 (take 4 (b ∷ bytes)))))

flag_stop_behind : (bytes : List ℕ) → 0 < length bytes → flag_stop_of bytes ≡ cond (ltb (length bytes) 4) (Some ends.Cut) (by_flags (wants_no_zeroes (from_be_bytes w32 (take 4 bytes))))
flag_stop_behind [] lt = absurd (omega (arith, lt))
flag_stop_behind (b ∷ bytes) lt = refl

flag_stop_word : (n : ℕ) (more : List ℕ) → n < 2 ^ 32 → flag_stop_of (to_be_bytes w32 n ++ more) ≡ by_flags (wants_no_zeroes n)
flag_stop_word n more p =
    let all = to_be_bytes w32 n ++ more in
    let value : from_be_bytes w32 (take 4 all) ≡ n = wide32.again n p in
    flag_stop_behind all (omega (arith, length_word n more))
    ∙ (cond-false (ltb (length all) 4) _ _ (le-ltb _ _ (omega (arith, length_word n more)))
    ∙ ap (λ (k : ℕ). by_flags (wants_no_zeroes k)) value)

record Stopped (bytes : List ℕ) (entry : Entry) : Type 0 where
  pub end : End
  pub out : entry ≡ entries.Out end
  pub stop : flag_stop_of bytes ≡ Some end

flag_stopped : (bytes : List ℕ) (e : Entry) → FlagsStop bytes e → Stopped bytes e
flag_stopped bytes (entries.Out ends.Over) h = record { end = ends.Over; out = refl; stop = ap flag_stop_of h }
flag_stopped bytes (entries.Out ends.Cut) h = record { end = ends.Cut; out = refl; stop = flag_stop_behind bytes h.0 ∙ cond-true (ltb (length bytes) 4) _ _ (lt-ltb _ _ h.1) }
flag_stopped bytes (entries.Out ends.BadFlags) (flags, more, is, fits, unknown) =
    record { end = ends.BadFlags; out = refl; stop = ap flag_stop_of is ∙ (flag_stop_word flags more fits ∙ ap by_flags unknown) }
flag_stopped bytes (entries.Out ends.BadMagic) h = absurd h
flag_stopped bytes (entries.Out ends.TooLong) h = absurd h
flag_stopped bytes (entries.Out ends.Disc) h = absurd h
flag_stopped bytes (entries.Out ends.Abort) h = absurd h
flag_stopped bytes (entries.Out ends.NoExport) h = absurd h
flag_stopped bytes (entries.Out ends.TooMany) h = absurd h
flag_stopped bytes (entries.Out ends.Worn) h = absurd h
flag_stopped bytes (entries.In n) h = absurd h
flag_stopped bytes entries.Refused h = absurd h

module _ (table : List ExportFacts) where
  goes_by : (bytes text : List ℕ) (e : Entry) (rest : List ℕ) → HasFlags IsGiven table bytes text e rest → flag_stop_of bytes ≡ None
  goes_by bytes text e rest a = ap flag_stop_of a.spelled ∙ (flag_stop_word a.flags a.more a.fits ∙ ap by_flags a.known)

  one_stop : (bytes : List ℕ) (e f : Entry) → Stopped bytes e → Stopped bytes f → e ≡ f
  one_stop bytes e f a b = a.out ∙ (ap (λ (x : End). entries.Out x) (one_end (flag_stop_of bytes) a.end b.end a.stop b.stop) ∙ sym b.out)

  -- two of the same flags
  record Alike (bytes t u : List ℕ) (e f : Entry) (x y : List ℕ) (a : HasFlags IsGiven table bytes t e x) : Type 0 where
    pub haggles : Haggles IsGiven table a.bare 0 a.more u f y

  alike : (bytes t u : List ℕ) (e f : Entry) (x y : List ℕ) (a : HasFlags IsGiven table bytes t e x) (b : HasFlags IsGiven table bytes u f y) → Alike bytes t u e f x y a
  alike bytes t u e f x y a b =
      let one = one_word a.flags b.flags a.more b.more a.fits b.fits (sym a.spelled ∙ b.spelled) in
      let known : Some b.bare ≡ Some a.bare = sym b.known ∙ (ap wants_no_zeroes (sym one.0) ∙ a.known) in
      let bare : b.bare ≡ a.bare = cc in
      record { haggles = subst (λ (w : Bool). Haggles IsGiven table w 0 a.more u f y) bare (subst (λ (k : List ℕ). Haggles IsGiven table b.bare 0 k u f y) (sym one.1) b.haggles) }

  one_greeted : (bytes t u : List ℕ) (e f : Entry) (x y : List ℕ) → Greeted IsGiven table bytes t e x → Greeted IsGiven table bytes u f y → (t ≡ u) × (e ≡ f) × (x ≡ y)
  one_greeted bytes t u e f x y (inl a) (inl b) = (a.0 ∙ sym b.0, one_stop bytes e f (flag_stopped bytes e a.2) (flag_stopped bytes f b.2), a.1 ∙ sym b.1)
  one_greeted bytes t u e f x y (inl a) (inr b) = let s = flag_stopped bytes e a.2 in absurd (no_end (flag_stop_of bytes) s.end (goes_by bytes u f y b) s.stop)
  one_greeted bytes t u e f x y (inr a) (inl b) = let s = flag_stopped bytes f b.2 in absurd (no_end (flag_stop_of bytes) s.end (goes_by bytes t e x a) s.stop)
  one_greeted bytes t u e f x y (inr a) (inr b) =
      let same = alike bytes t u e f x y a b in
      one_haggling table a.bare 0 a.more t u e f x y a.haggles same.haggles

  pub one_shaken : (bytes t u : List ℕ) (e f : Entry) (x y : List ℕ) → Shaken IsGiven table bytes t e x → Shaken IsGiven table bytes u f y → (t ≡ u) × (e ≡ f) × (x ≡ y)
  one_shaken bytes t u e f x y (later, said, a) (after, heard, b) =
      let one = one_greeted bytes later after e f x y a b in
      (said ∙ (ap (λ (k : List ℕ). greeting_text ++ k) one.0 ∙ sym heard), one.1, one.2)

  -- ---- to a beginning of the bytes

  flags_outside : (bytes : List ℕ) (e : Entry) → FlagsStop bytes e → IsInside e → ⊥
  flags_outside bytes (entries.Out end) h i = i
  flags_outside bytes (entries.In n) h i = h
  flags_outside bytes entries.Refused h i = h

  more_greeted : (bytes more t u : List ℕ) (e f : Entry) (x y : List ℕ) → Greeted IsGiven table bytes t e x → Greeted IsGiven table (bytes ++ more) u f y → SaysMore t u e f x y more
  more_greeted bytes more t u e f x y (inl a) b = record {
    later = u;
    said = ap (λ (k : List ℕ). k ++ u) (sym a.0);
    inside = λ i. absurd (flags_outside bytes e a.2 i);
  }
  more_greeted bytes more t u e f x y (inr a) (inl b) =
      let s = flag_stopped (bytes ++ more) f b.2 in
      let on : flag_stop_of (bytes ++ more) ≡ None = ap (λ (k : List ℕ). flag_stop_of (k ++ more)) a.spelled ∙ (ap flag_stop_of (append_assoc (to_be_bytes w32 a.flags) a.more more)
      ∙ (flag_stop_word a.flags (a.more ++ more) a.fits ∙ ap by_flags a.known)) in
      absurd (no_end (flag_stop_of (bytes ++ more)) s.end on s.stop)
  more_greeted bytes more t u e f x y (inr a) (inr b) =
      let one = one_word a.flags b.flags (a.more ++ more) b.more a.fits b.fits (sym (append_assoc (to_be_bytes w32 a.flags) a.more more) ∙ (ap (λ (k : List ℕ). k ++ more) (sym a.spelled) ∙ b.spelled)) in
      let known : Some b.bare ≡ Some a.bare = sym b.known ∙ (ap wants_no_zeroes (sym one.0) ∙ a.known) in
      let bare : b.bare ≡ a.bare = cc in
      let go = more_haggling table a.bare 0 a.more more t u e f x y a.haggles
      (subst (λ (w : Bool). Haggles IsGiven table w 0 (a.more ++ more) u f y) bare (subst (λ (k : List ℕ). Haggles IsGiven table b.bare 0 k u f y) (sym one.1) b.haggles)) in
      record { later = go.later; said = go.said; inside = go.inside }

  pub more_shaken : (bytes more t u : List ℕ) (e f : Entry) (x y : List ℕ) → Shaken IsGiven table bytes t e x → Shaken IsGiven table (bytes ++ more) u f y → SaysMore t u e f x y more
  more_shaken bytes more t u e f x y (later, said, a) (after, heard, b) =
      let go = more_greeted bytes more later after e f x y a b in
      record {
        later = go.later;
        said = heard ∙ (ap (λ (k : List ℕ). greeting_text ++ k) go.said ∙ (sym (append_assoc greeting_text later go.later) ∙ ap (λ (k : List ℕ). k ++ go.later) (sym said)));
        inside = go.inside;
      }

-- ---- all

module _ (exports : List Export) where
  one_at : (o : Option Export) (rest t u : List ℕ) (e f : End) → ServesAt o rest t e → ServesAt o rest u f → (t ≡ u) × (e ≡ f)
  one_at None rest t u e f a b = absurd a
  one_at (Some x) rest t u e f a b = one_serving (terms_of x) (opened (terms_of x)) rest t u e f a b

  one_continued : (entry : Entry) (rest t u : List ℕ) (e f : End) → Continues exports entry rest t e → Continues exports entry rest u f → (t ≡ u) × (e ≡ f)
  one_continued (entries.In n) rest t u e f a b = one_at (slice_get exports n) rest t u e f a b
  one_continued (entries.Out stop) rest t u e f a b = (a.0 ∙ sym b.0, a.1 ∙ sym b.1)
  one_continued entries.Refused rest t u e f a b = absurd a

  pub one_talk : (bytes t u : List ℕ) (e f : End) → Talked exports bytes t e → Talked exports bytes u f → (t ≡ u) × (e ≡ f)
  one_talk bytes t u e f a b =
      let one = one_shaken (map facts_of exports) bytes a.first b.first a.entry b.entry a.rest b.rest a.shaken b.shaken in
      let same = one_continued a.entry a.rest a.later b.later e f a.continues
      (subst (λ (k : Entry). Continues exports k a.rest b.later f) (sym one.1) (subst (λ (k : List ℕ). Continues exports b.entry k b.later f) (sym one.2) b.continues)) in
      (a.said ∙ (ap (λ (k : List ℕ). k ++ a.later) one.0 ∙ (ap (λ (k : List ℕ). b.first ++ k) same.0 ∙ sym b.said)), same.1)

  more_at : (o : Option Export) (rest more t u : List ℕ) (e f : End) → ServesAt o rest t e → ServesAt o (rest ++ more) u f → (v : List ℕ) × (u ≡ t ++ v)
  more_at None rest more t u e f a b = absurd a
  more_at (Some x) rest more t u e f a b = more_serving (terms_of x) (opened (terms_of x)) rest more t u e f a b

  more_continued : (entry other : Entry) (rest behind more t u : List ℕ) (e f : End) (first second later : List ℕ) → second ≡ first ++ later
      → (IsInside entry → (later ≡ []) × (other ≡ entry) × (behind ≡ rest ++ more)) → Continues exports entry rest t e → Continues exports other behind u f
      → (v : List ℕ) × (second ++ u ≡ (first ++ t) ++ v)
  more_continued (entries.In n) other rest behind more t u e f first second later is inside a b =
      let same = inside tt in
      let go = more_at (slice_get exports n) rest more t u e f a (subst (λ (k : List ℕ). Continues exports (entries.In n) k u f) same.2 (subst (λ (k : Entry). Continues exports k behind u f) same.1 b)) in
      (go.0, ap (λ (k : List ℕ). k ++ u) (is ∙ (ap (λ (k : List ℕ). first ++ k) same.0 ∙ append-nil first)) ∙ (ap (λ (k : List ℕ). first ++ k) go.1 ∙ sym (append_assoc first t go.0)))
  more_continued (entries.Out stop) other rest behind more t u e f first second later is inside a b =
      (later ++ u, ap (λ (k : List ℕ). k ++ u) is ∙ (append_assoc first later u ∙ ap (λ (k : List ℕ). k ++ (later ++ u)) (sym (append-nil first) ∙ ap (λ (k : List ℕ). first ++ k) (sym a.0))))
  more_continued entries.Refused other rest behind more t u e f first second later is inside a b = absurd a

  pub more_talk : (bytes more t u : List ℕ) (e f : End) → Talked exports bytes t e → Talked exports (bytes ++ more) u f → (v : List ℕ) × (u ≡ t ++ v)
  more_talk bytes more t u e f a b =
      let go = more_shaken (map facts_of exports) bytes more a.first b.first a.entry b.entry a.rest b.rest a.shaken b.shaken in
      let all = more_continued a.entry b.entry a.rest b.rest more a.later b.later e f a.first b.first go.later go.said go.inside a.continues b.continues in
      (all.0, b.said ∙ (all.1 ∙ ap (λ (k : List ℕ). k ++ all.0) (sym a.said)))
