use Rattle.std.proofs.Common.{◌≡◌, ◌∙◌, ℕ, Bool, sym}
use Rattle.number_sets.specs.Bits.{is_set}
use Rattle.number_sets.proofs.CountLemmas.{count_of}
use Rattle.page_table.proofs.PlacesLemmas.{all_pass, all_before}
use Rattle.page_table.proofs.places.index_of.Goals as goal

all_are : (test : ℕ → Bool) (count : ℕ) → count ≡ count_of test 0 256 → count ≡ 256 → count_of test 0 256 ≡ 256
all_are test count is full = sym is ∙ full

pub returns-then-count-eq256-clause-there : goal.returns-then-count-eq256-clause-there
returns-then-count-eq256-clause-there c =
    all_pass (is_set c.args.marks.now) 256 c.args.place c.requires.place (all_are (is_set c.args.marks.now) c.args.count c.requires.counted c.if-count-eq256.true)

pub returns-then-count-eq256-clause-before : goal.returns-then-count-eq256-clause-before
returns-then-count-eq256-clause-before c =
    all_before (is_set c.args.marks.now) 256 c.args.place c.requires.place (all_are (is_set c.args.marks.now) c.args.count c.requires.counted c.if-count-eq256.true)
