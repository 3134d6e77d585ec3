use Rattle.nbd_wire.proofs.BegunLemmas.{none_short, none_refused, none_other, none_small, none_whole, some_long}
use Rattle.nbd_wire.proofs.begun.begun_head.Goals as goal

pub returns-then-bytes-lt-HEAD-clause-none : goal.returns-then-bytes-lt-HEAD-clause-none
returns-then-bytes-lt-HEAD-clause-none c = λ _. none_short c.args.least c.args.bytes.now c.if-bytes-lt-HEAD.true

pub returns-in_default-clause-none : goal.returns-in_default-clause-none
returns-in_default-clause-none c = λ _.
    none_refused c.args.least c.args.bytes.now c.copy_from_slice.new.self c.in_default.field-0 c.copy_from_slice.ensures.after c.if-bytes-lt-HEAD.false
    (λ e. c.in_default.ensures.bad_magic (cc)) (λ e. c.in_default.ensures.too_long (cc))

pub returns-then-head-ne-WRITE-clause-none : goal.returns-then-head-ne-WRITE-clause-none
returns-then-head-ne-WRITE-clause-none c = λ _.
    none_other c.args.bytes.now c.copy_from_slice.new.self c.in-Ok.head c.copy_from_slice.ensures.after c.in-Ok.ensures.spelled.0 c.in-Ok.ensures.spelled.1 c.args.least c.if-head-ne-WRITE.true

pub returns-then-count-least-clause-none : goal.returns-then-count-least-clause-none
returns-then-count-least-clause-none c = λ _.
    none_small c.args.bytes.now c.copy_from_slice.new.self c.in-Ok.head c.copy_from_slice.ensures.after c.in-Ok.ensures.spelled.0 c.in-Ok.ensures.spelled.1 c.args.least c.if-count-least.true

pub returns-then-count-bytes-clause-none : goal.returns-then-count-bytes-clause-none
returns-then-count-bytes-clause-none c = λ _.
    none_whole c.args.bytes.now c.copy_from_slice.new.self c.in-Ok.head c.copy_from_slice.ensures.after c.in-Ok.ensures.spelled.0 c.in-Ok.ensures.spelled.1 c.args.least c.if-count-bytes.true

pub returns-clause-long : goal.returns-clause-long
returns-clause-long c = (
  c.if-bytes-lt-HEAD.false,
  some_long c.args.bytes.now c.copy_from_slice.new.self c.in-Ok.head c.copy_from_slice.ensures.after c.in-Ok.ensures.spelled.0 c.in-Ok.ensures.spelled.1 c.args.least
      c.in-Ok.ensures.spelled.2 c.if-head-ne-WRITE.false c.if-count-least.false c.if-count-bytes.false,
)
