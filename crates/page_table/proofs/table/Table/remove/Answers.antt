use Rattle.std.proofs.Common.{◌∙◌, ◌+◌, ◌-◌, ◌/◌, ◌&&◌, None, ℕ, not, refl, sym, ap, subst, arith}
use Rattle.number_sets.specs.Bits.{is_between}
use Rattle.page_table.specs.Holes.{is_hole, is_noted}
use Rattle.page_table.specs.Table.{Stored, in_chunks}
use Rattle.number_sets.proofs.RangeLemmas.{ArePut, between_before, between_behind, put_begun, put_more, put_done}
use Rattle.page_table.proofs.ChunksLemmas.{other_chunk, absent_is}
use Rattle.page_table.proofs.HolesLemmas.{Rows}
use Rattle.page_table.proofs.TableLemmas.{gone_is, filled_noted}
use Rattle.page_table.proofs.table.Table.remove.Goals as goal

pub loop-chunk-init : goal.loop-chunk-init
loop-chunk-init g c =
    let now : Stored = c.args.self.now in
    let last : ℕ = c.div_ceil-upto.result in
    record {
      within = omega arith;
      put = subst (λ (table : Stored). ArePut None (λ k. last - k / 256) c.args.first c.args.end (in_chunks now.chunks) (in_chunks table.chunks) (last - last + 1)) (sym c.self.view_is)
          (put_begun None (λ k. last - k / 256) c.args.first c.args.end (in_chunks now.chunks) (last - last + 1) (λ k behind. between_behind c.args.first c.args.end k (omega (arith, behind, c.div_ceil-upto.ensures))));
      holes = λ p k. c.fill_all.ensures.holes p k ∙ ap (λ (table : Stored). is_hole table.holes p k && not (is_between c.args.first c.args.end p)) c.self.view_is;
      noted = λ p inside. filled_noted c.self.inside.holes.rows c.fill_all.new.self.rows c.args.first c.args.end p (c.fill_all.ensures.noted p) inside;
    }

pub loop-chunk-preserved : goal.loop-chunk-preserved
loop-chunk-preserved g c =
    let before = c.loop-chunk.invariant in
    let after = c.remove_in.ensures in
    let found = c.in-Some.ensures in
    let at : ℕ = c.in-Some.chunk in
    let last : ℕ = c.div_ceil-upto.result in
    let now : Stored = c.args.self.now in
    let mid : Stored = c.loop-chunk.self in
    let new : Stored = c.remove_in.new.self in
    record {
      within = omega (arith, before.within, found.ends);
      put = put_more None (λ k. last - k / 256) c.args.first c.args.end (in_chunks now.chunks) (in_chunks mid.chunks) (in_chunks new.chunks) (last - c.loop-chunk.upto + 1) (last - at)
          before.put (omega (arith, before.within, found.ends))
          (λ k above below. absent_is mid.chunks k (k / 256) refl (found.last (k / 256) (omega (arith, below)) (omega (arith, above, before.within))))
          (λ k is. after.here k (omega (arith, is, before.within, found.ends)))
          (λ k apart. other_chunk mid.chunks new.chunks at after.others k (λ same. apart (ap (λ (q : ℕ). last - q) same)));
      holes = λ p k. ap (λ (rows : Rows). is_hole rows p k) after.holes ∙ before.holes p k;
      noted = λ p inside. ap (λ (rows : Rows). is_noted rows p) after.holes ∙ before.noted p inside;
    }

pub returns : goal.returns
returns g c = λ k.
    let before = c.loop-chunk.invariant in
    let last : ℕ = c.div_ceil-upto.result in
    let from : ℕ = c.args.first / 256 in
    let now : Stored = c.args.self.now in
    let mid : Stored = c.loop-chunk.self in
    gone_is now mid c.args.first c.args.end k
    (put_done None (λ k. last - k / 256) c.args.first c.args.end (in_chunks now.chunks) (in_chunks mid.chunks) (last - c.loop-chunk.upto + 1) (last - from + 1)
    before.put
    (λ k above below. absent_is mid.chunks k (k / 256) refl (c.in_default.ensures.none refl (k / 256) (omega (arith, below, c.div_ceil-upto.ensures, c.if-first-end.false)) (omega (arith, above, before.within))))
    (λ k before. between_before c.args.first c.args.end k (omega (arith, before, c.div_ceil-upto.ensures, c.if-first-end.false))) k)
    (before.holes k)
