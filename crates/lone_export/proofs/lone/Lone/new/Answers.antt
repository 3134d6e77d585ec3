use Rattle.std.proofs.Common.{◌∙◌, ap, replicate, subst, ◌<◌}
use Rattle.export_queue.specs.Queue.{empty_queue}
use Rattle.reply_box.specs.Box.{empty_box}
use Rattle.tag_clock.specs.Intervals.{IsInterval, intervals_of}
use Rattle.tag_clock.specs.Clocks.{fresh_limit}
use Rattle.lone_export.proofs.Opening.{lone-new, new_is}
use Rattle.lone_export.proofs.lone.Lone.new.Goals as goal

pub invariant_of-result : goal.invariant_of-result
invariant_of-result g c =
    lone-new c.args.config.now _ _ _ _ _ _ c.args.inflight c.info.ensures.size c.info.ensures.read_only
    (c.in_ok-image.ensures ∙ ap (λ n. replicate n 0) c.size.ensures.value)
    (c.in_ok-queue.ensures ∙ ap (λ n. empty_queue n c.args.inflight) c.depth.ensures.value)
    (c.new-3.ensures ∙ ap fresh_limit c.l_interval.ensures.value)
    (c.new-4.ensures ∙ ap empty_box c.window.ensures.value)
    c.size.ensures.valid c.requires (subst (λ n. 0 < n → IsInterval n) c.l_interval.ensures.value c.l_interval.ensures.range)

pub returns : goal.returns
returns g c =
    new_is c.args.config.now _ _ _ _ _ _ c.args.inflight c.info.ensures.size c.info.ensures.read_only
    (c.in_ok-image.ensures ∙ ap (λ n. replicate n 0) c.size.ensures.value)
    (c.in_ok-queue.ensures ∙ ap (λ n. empty_queue n c.args.inflight) c.depth.ensures.value)
    (c.new-3.ensures ∙ ap fresh_limit c.l_interval.ensures.value)
    (c.new-4.ensures ∙ ap empty_box c.window.ensures.value)
    (c.in-Some.ensures.value ∙ (λ i. intervals_of (c.reservation.ensures.value i) (c.limit.ensures.value i) (c.weight.ensures.value i)))
