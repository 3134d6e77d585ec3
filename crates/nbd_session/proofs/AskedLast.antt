-- Which session is asked for last, and which are given.
use Rattle.std.proofs.Common.{◌≡◌, ◌≢◌, ℕ, Bool, List, [], ◌∷◌, ◌++◌, Option, Some, None, Result, Ok, Err, length, refl, sym, ap, subst, ◌∙◌, inl, inr}
use Rattle.std.proofs.lemmas.List.{append-nil}
use Rattle.std.specs.List.{AllByRecursion}
use Rattle.nbd_options.specs.declared.attach.Attached.{Attached}
use Rattle.nbd_options.specs.declared.attach.Attached.TheVariants as attached
use Rattle.nbd_options.specs.declared.answers.Next.{Next}
use Rattle.nbd_options.specs.declared.answers.Next.TheVariants as nexts
use Rattle.nbd_options.specs.declared.saying.HaggleEnd.{HaggleEnd}
use Rattle.nbd_options.specs.declared.saying.HaggleEnd.TheVariants as haggle_ends
use Rattle.nbd_options.specs.Asking.{Asking, asked_by, one_asking}
use Rattle.nbd_options.specs.Exports.{ExportFacts}
use Rattle.nbd_options.specs.Replies.{ReplyMessage, next_after, replies_to}
use Rattle.nbd_options.specs.Haggled.{Asked, said_by}
use Rattle.nbd_session.specs.declared.outcomes.Entry.{Entry}
use Rattle.nbd_session.specs.declared.outcomes.Entry.TheVariants as entries
use Rattle.nbd_session.specs.declared.outcomes.TalkFault.{TalkFault}
use Rattle.nbd_session.specs.Options.{GoesOn, entry_after}
use Rattle.nbd_session.specs.Askings.{asked_at, asked_in, asked_last, AskedAtTheEnd, EndsAsked, EndsBy, IsFull, IsOutside}

all-then : {A : Type 0} (P : A → Type 0) (xs ys : List A) → AllByRecursion P xs → AllByRecursion P ys → AllByRecursion P (xs ++ ys)
all-then P [] ys all more = more
all-then P (x ∷ xs) ys all more = (all.0, all-then P xs ys all.1 more)

-- what was asked for at the option that ends haggling, by how that ends
abbrev AskedBy : List Asking → Entry → Type 0
AskedBy more (entries.In n) = more ≡ one_asking n attached.Given ∷ []
AskedBy more entries.Refused = (last : Asking) × (more ≡ last ∷ []) × (last.answer ≢ attached.Given)
AskedBy more (entries.Out end) = more ≡ []

after_all : (before more : List Asking) (entry : Entry) → AllByRecursion IsFull before → AskedBy more entry → EndsAsked (before ++ more) (Ok entry)
after_all before more (entries.In n) full is = (before, ap (λ (t : List Asking). before ++ t) is, full)
after_all before more entries.Refused full h = (before, h.0, ap (λ (t : List Asking). before ++ t) h.1, full, h.2)
after_all before more (entries.Out end) full is = subst (λ (t : List Asking). AllByRecursion IsFull t) (sym (ap (λ (t : List Asking). before ++ t) is ∙ append-nil before)) full

no_end : (e : HaggleEnd) → Some e ≡ None → ⊥
no_end e h = cc

no_such_end : (e : HaggleEnd) → None ≡ Some e → ⊥
no_such_end e h = cc

one_end : (e f : HaggleEnd) → Some e ≡ Some f → e ≡ f
one_end e f h = cc

-- one session more, by how haggling ended
asked_so : (more : List Asking) (e f : HaggleEnd) → AskedBy more (entry_after e) → Some e ≡ Some f → AskedBy more (entry_after f)
asked_so more e f asked h = subst (λ (x : HaggleEnd). AskedBy more (entry_after x)) (one_end e f h) asked

not_given : (n : ℕ) (answer : Attached) → (answer ≢ attached.Given) → AskedBy (one_asking n answer ∷ []) entries.Refused
not_given n answer differs = (one_asking n answer, refl, differs)

module _ (table : List ExportFacts) (bare : Bool) (replies : List ReplyMessage) where
  -- an option behind which haggling goes on got no session
  full_by : (next : Next) (answer : Attached) → (said_by table bare replies next answer).end ≡ None → AllByRecursion IsFull (asked_by next answer)
  full_by (nexts.Go n) attached.Given h = absurd (no_end (haggle_ends.Entered n) h)
  full_by (nexts.Go n) attached.Full h = (refl, tt)
  full_by (nexts.Go n) attached.Other h = absurd (no_end haggle_ends.Refused h)
  full_by (nexts.ByName n) attached.Given h = absurd (no_end (haggle_ends.Entered n) h)
  full_by (nexts.ByName n) attached.Full h = absurd (no_end haggle_ends.Refused h)
  full_by (nexts.ByName n) attached.Other h = absurd (no_end haggle_ends.Refused h)
  full_by nexts.Again answer h = tt
  full_by nexts.Abort answer h = tt
  full_by nexts.Close answer h = tt

  ended_by : (next : Next) (answer : Attached) (end : HaggleEnd) → (said_by table bare replies next answer).end ≡ Some end → AskedBy (asked_by next answer) (entry_after end)
  ended_by (nexts.Go n) attached.Given end h = asked_so (one_asking n attached.Given ∷ []) (haggle_ends.Entered n) end refl h
  ended_by (nexts.Go n) attached.Full end h = absurd (no_such_end end h)
  ended_by (nexts.Go n) attached.Other end h = asked_so (one_asking n attached.Other ∷ []) haggle_ends.Refused end (not_given n attached.Other (λ e. cc)) h
  ended_by (nexts.ByName n) attached.Given end h = asked_so (one_asking n attached.Given ∷ []) (haggle_ends.Entered n) end refl h
  ended_by (nexts.ByName n) attached.Full end h = asked_so (one_asking n attached.Full ∷ []) haggle_ends.Refused end (not_given n attached.Full (λ e. cc)) h
  ended_by (nexts.ByName n) attached.Other end h = asked_so (one_asking n attached.Other ∷ []) haggle_ends.Refused end (not_given n attached.Other (λ e. cc)) h
  ended_by nexts.Again answer end h = absurd (no_such_end end h)
  ended_by nexts.Abort answer end h = asked_so [] haggle_ends.Aborted end refl h
  ended_by nexts.Close answer end h = asked_so [] haggle_ends.NoExport end refl h

module _ (may : ℕ → Attached → Type 0) (table : List ExportFacts) where
  all_full : (bare : Bool) (asked : List Asked) → AllByRecursion (GoesOn may table bare) asked → AllByRecursion IsFull (asked_in table asked)
  all_full bare [] each = tt
  all_full bare (a ∷ more) each =
      all-then IsFull (asked_at table a) (asked_in table more) (full_by table bare (replies_to table a.option) (next_after table a.option) a.answer each.0.on) (all_full bare more each.1)

  by_end : (bare : Bool) (asked : List Asked) (last : Option Asked) (behind : List ℕ) (result : Result Entry TalkFault) → AllByRecursion (GoesOn may table bare) asked
      → EndsBy may table bare (length asked) last behind result → EndsAsked (asked_in table asked ++ asked_last table last) result
  by_end bare asked last behind (Err fault) each ends = tt
  by_end bare asked (Some a) behind (Ok entry) each ends =
      let one : AskedBy (asked_at table a) (entry_after ends.2) = ended_by table bare (replies_to table a.option) (next_after table a.option) a.answer ends.2 ends.3 in
      after_all (asked_in table asked) (asked_at table a) entry (all_full bare asked each)
      (subst (λ (e : Entry). AskedBy (asked_at table a) e) (sym ends.4) one)
  by_end bare asked None behind (Ok (entries.Out end)) each ends =
      subst (λ (t : List Asking). AllByRecursion IsFull t) (sym (append-nil (asked_in table asked))) (all_full bare asked each)
  by_end bare asked None behind (Ok (entries.In n)) each ends = absurd ends
  by_end bare asked None behind (Ok entries.Refused) each ends = absurd ends

  outside : (result : Result Entry TalkFault) → IsOutside result → EndsAsked [] result
  outside (Ok (entries.Out end)) h = tt
  outside (Ok (entries.In n)) h = absurd h
  outside (Ok entries.Refused) h = absurd h
  outside (Err fault) h = tt

  pub asked_at_the_end : AskedAtTheEnd may table
  asked_at_the_end before now old new result (inl none) = ([], none.noted, outside result none.outside)
  asked_at_the_end before now old new result (inr some) =
      let asks = some.asks in
      (asked_in table asks.asked ++ asked_last table asks.last, asks.noted, by_end some.bare asks.asked asks.last asks.behind result asks.each asks.ends)
