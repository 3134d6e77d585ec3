use Rattle.std.proofs.Common.{ap, arith}
use Rattle.nbd_options.proofs.HeadLemmas.{too_many, too_long, taken}
use Rattle.nbd_options.proofs.haggle.Haggle.head.Goals as goal

pub returns-then-self-ge-MAX_OPTIONS-clause-err : goal.returns-then-self-ge-MAX_OPTIONS-clause-err
returns-then-self-ge-MAX_OPTIONS-clause-err g c =
    let e = c.in-Ok.ensures.spelled in
    too_many c.args.self.now.seen c.args.bytes.now c.in-Ok.number c.in-Ok.count e.0 e.2 (omega (arith, ap (λ v. v.seen) c.self.view_is))

pub returns-then-count-gt-MAX_CONTENT-clause-err : goal.returns-then-count-gt-MAX_CONTENT-clause-err
returns-then-count-gt-MAX_CONTENT-clause-err g c =
    let e = c.in-Ok.ensures.spelled in
    too_long c.args.self.now.seen c.args.bytes.now c.in-Ok.number c.in-Ok.count e.0 e.2 (omega (arith, ap (λ v. v.seen) c.self.view_is)) (omega arith)

pub returns-clause-ok : goal.returns-clause-ok
returns-clause-ok g c =
    let e = c.in-Ok.ensures.spelled in
    (e.0, taken c.args.self.now.seen c.args.bytes.now c.in-Ok.number c.in-Ok.count e.0 e.2 (omega (arith, ap (λ v. v.seen) c.self.view_is)) (omega arith))
