use Rattle.std.proofs.Common.{◌≡◌, ◌+◌, ◌-◌, ◌/◌, ◌∙◌, inl, inr, true, ◌||◌, nat_eq, Bool, is_some, unwrap_or, Option, ℕ, List, length, refl, sym, ap, arith}
use Rattle.std.specs.Int.{div_ceil}
use Rattle.std.proofs.lemmas.Bool.{cases_eq}
use Rattle.payload.specs.Rows.{zero_page}
use Rattle.export_store.specs.Pages.{is_stored, page_of, pages_after}
use Rattle.export_store.proofs.ImageLemmas.{held_again}
use Rattle.export_store.proofs.RangeLemmas.{has_byte}
use Rattle.export_store.proofs.PieceLemmas.{IsTaken, take_last, length-page_after, length-pages_after, written_none, written_next, written_all, image_after}
use Rattle.export_store.proofs.paged.Paged.put_all.Goals as goal

pub loop-page-init : goal.loop-page-init
loop-page-init g c =
    let piece = c.args.piece.now in
    let end : c.div_ceil-number.result ≡ div_ceil (c.args.offset + length piece) 4096 =
    c.div_ceil-number.ensures ∙ ap (λ (n : ℕ). div_ceil n 4096) (c.end_of.ensures.end ∙ ap (λ (n : ℕ). c.args.offset + n) c.len.ensures) in
    record {
      size = refl;
      long = refl;
      begun = omega (arith, end);
      upto = omega (arith, end);
      left = c.requires.ready ∙ ap (λ (n : ℕ). pages_after (page_of c.args.self.now) c.args.offset piece (c.args.offset / 4096) (n - c.args.offset / 4096)) (sym end);
      written = written_none (page_of c.args.self.now) c.args.offset piece c.div_ceil-number.result end;
      held = λ k. refl;
      stored = λ k there. there;
    }

pub replace-requires-clause-begins : goal.replace-requires-clause-begins
replace-requires-clause-begins g c =
    let before = c.loop-page.invariant in
    let last : IsTaken (page_of c.args.self.now) c.args.offset c.args.piece.now (c.args.offset / 4096) c.loop-page.number c.pop.new.self.items c.in-Some.page =
    take_last (page_of c.args.self.now) c.args.offset c.args.piece.now (c.args.offset / 4096) c.loop-page.number c.pop.new.self.items c.in-Some.page before.begun (sym c.in-Some.ensures.items ∙ before.left) in
    omega (arith, last.some, before.upto, before.long, c.requires.within, c.requires.some)

pub replace-requires-clause-whole : goal.replace-requires-clause-whole
replace-requires-clause-whole g c =
    let before = c.loop-page.invariant in
    let last : IsTaken (page_of c.args.self.now) c.args.offset c.args.piece.now (c.args.offset / 4096) c.loop-page.number c.pop.new.self.items c.in-Some.page =
    take_last (page_of c.args.self.now) c.args.offset c.args.piece.now (c.args.offset / 4096) c.loop-page.number c.pop.new.self.items c.in-Some.page before.begun (sym c.in-Some.ensures.items ∙ before.left) in
    ap length last.last_is ∙ length-page_after c.args.offset c.args.piece.now _ _ (c.end_of.ensures.pages.whole _)

pub loop-page-preserved : goal.loop-page-preserved
loop-page-preserved g c =
    let before = c.loop-page.invariant in
    let after = c.in_ok-replace.ensures in
    let offset = c.args.offset in
    let piece = c.args.piece.now in
    let number = c.loop-page.number in
    let last : IsTaken (page_of c.args.self.now) offset piece (c.args.offset / 4096) number c.pop.new.self.items c.in-Some.page =
    take_last (page_of c.args.self.now) offset piece (c.args.offset / 4096) number c.pop.new.self.items c.in-Some.page before.begun (sym c.in-Some.ensures.items ∙ before.left) in
    let here : page_of c.replace.new.self (number - 1) ≡ c.in-Some.page = ap (λ (page : Option (List ℕ)). unwrap_or page zero_page) after.here in
    let touched : is_stored c.args.self.now (number - 1) ≡ true =
    c.requires.stored (number - 1) (has_byte offset (length piece) (number - 1) c.requires.some (omega (arith, last.some)) (omega (arith, last.some, before.upto))) in
    record {
      size = after.size ∙ before.size;
      long = after.long ∙ before.long;
      begun = omega (arith, last.some);
      upto = omega (arith, before.upto);
      left = last.rest_is;
      written = written_next (page_of c.args.self.now) (page_of c.loop-page.self) (page_of c.replace.new.self) offset piece number (omega (arith, last.some)) before.written (here ∙ last.last_is)
          (λ k apart. ap (λ (page : Option (List ℕ)). unwrap_or page zero_page) (after.others k apart));
      held = λ k. after.held k ∙ ap (λ (b : Bool). b || nat_eq k (number - 1)) (before.held k) ∙ held_again c.args.self.now k (number - 1) touched;
      stored = λ k there. elim (cases_eq k (number - 1)) [
        | inl e ↦ ap (is_stored c.replace.new.self) e ∙ ap is_some after.here
        | inr apart ↦ ap is_some (after.others k apart) ∙ before.stored k there
      ];
    }

pub returns-clause-written : goal.returns-clause-written
returns-clause-written g c =
    let before = c.loop-page.invariant in
    let offset = c.args.offset in
    let piece = c.args.piece.now in
    let none : length c.loop-page.pages.items ≡ 0 = sym c.loop-page.pages.ok.0 ∙ c.in_default.ensures.cases.0 in
    let first : c.loop-page.number ≡ offset / 4096 =
    omega (arith, before.begun, none, ap length before.left, length-pages_after (page_of c.args.self.now) offset piece (offset / 4096) (c.loop-page.number - offset / 4096)) in
    image_after c.args.self.now c.loop-page.self offset piece c.end_of.ensures.pages before.size c.requires.within
    (λ k. before.written k ∙ written_all (page_of c.args.self.now) offset piece c.loop-page.number first k)
