use Rattle.std.proofs.Common.{◌+◌, inl, inr, arith}
use Rattle.export_store.proofs.RangeLemmas.{IsLast, whole_is}
use Rattle.export_store.proofs.zeroing.whole_pages.Goals as goal
use Rattle.export_store.proofs.zeroing.whole_pages.Goals.{then-end-size, else-end-size}

pub returns : goal.returns
returns c = λ k inside.
    let ends : IsLast c.args.size (c.args.offset + c.args.count) c.if-end-size.last =
    elim c.if-end-size.branch [ then-end-size w ↦ inl (omega arith, omega arith) | else-end-size w ↦ inr (omega arith, omega arith) ] in
    whole_is c.args.size c.args.offset c.args.count _ c.if-end-size.last k c.div_ceil.ensures ends inside
