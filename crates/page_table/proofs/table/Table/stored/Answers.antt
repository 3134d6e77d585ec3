use Rattle.std.proofs.Common.{◌≡◌, ◌+◌, ◌*◌, ◌<◌, ℕ, Bool, None, is_some, refl, ap, arith}
use Rattle.page_table.specs.Table.{Stored, chunk_of, in_table}
use Rattle.number_sets.proofs.CountLemmas.{count_of, count_le, count_more, count-none, count-upto}
use Rattle.page_table.proofs.ChunksLemmas.{none_between}
use Rattle.page_table.proofs.TableLemmas.{none_is}
use Rattle.page_table.proofs.table.Table.stored.Goals as goal

-- with the pages of the last chunk that is there
more_stored : (table : Stored) (chunk upto more : ℕ) → chunk < upto → ((q : ℕ) → chunk < q → q < upto → chunk_of table.chunks q ≡ None) → more ≡ count_of (λ k. is_some (in_table table k)) (256 * chunk) 256
    → more + count_of (λ k. is_some (in_table table k)) 0 (256 * chunk) ≡ count_of (λ k. is_some (in_table table k)) 0 (256 * upto)
more_stored table chunk upto more below none is =
    let stored : ℕ → Bool = λ k. is_some (in_table table k) in
    omega (
      arith,
      count_more stored (256 * chunk) (256 * chunk) (256 * (chunk + 1)) 256 (count_of stored 0 (256 * chunk)) more refl (omega arith) (λ k above less. absurd (omega (arith, above, less))) is (omega arith),
      count-upto stored (256 * (chunk + 1)) (256 * upto) (omega (arith, below))
          (λ k above less. ap is_some (none_is table k (none_between table.chunks (chunk + 1) upto (λ q behind. none q (omega (arith, behind))) k above less))),
    )

pub overflow_add-count : goal.overflow_add-count
overflow_add-count g c =
    let self = c.args.self.now in
    omega (
      arith,
      c.loop-chunk.invariant.count,
      more_stored self c.in-Some.chunk c.loop-chunk.upto c.stored_in-count.result c.in-Some.ensures.ends c.in-Some.ensures.last c.stored_in-count.ensures.count,
      count_le (λ k. is_some (in_table self k)) 0 (256 * c.args.chunks),
      c.requires,
    )

pub loop-chunk-preserved : goal.loop-chunk-preserved
loop-chunk-preserved g c =
    let before = c.loop-chunk.invariant in
    record {
      within = omega (arith, before.within, c.in-Some.ensures.ends);
      count = omega (
        arith,
        before.count,
        more_stored c.args.self.now c.in-Some.chunk c.loop-chunk.upto c.stored_in-count.result c.in-Some.ensures.ends c.in-Some.ensures.last c.stored_in-count.ensures.count,
      );
    }

pub returns : goal.returns
returns g c =
    let self = c.args.self.now in
    omega (
      arith,
      c.loop-chunk.invariant.count,
      count-none (λ k. is_some (in_table self k)) 0 (256 * c.loop-chunk.upto)
          (λ k above below. ap is_some (none_is self k (none_between self.chunks 0 c.loop-chunk.upto (c.in_default.ensures.none refl) k (omega arith) (omega (arith, below))))),
    )
