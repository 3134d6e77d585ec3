use Rattle.std.proofs.Common.{◌≡◌, ℕ, ◌<◌, List, [], ◌++◌, Option, None, IfOk, length, ap, subst, ◌∙◌}
use Rattle.nbd_wire.specs.declared.requests.RequestHead.{RequestHead}
use Rattle.nbd_wire.specs.declared.fault.FeedFault.{FeedFault}
use Rattle.nbd_wire.specs.Grammar.{head_text, request_text}
use Rattle.nbd_stream.specs.Frames.{TakesIn, Fetches}
use Rattle.nbd_stream.specs.Intake.{nothing_held, taken_in, Lengthens}
use Rattle.nbd_stream.proofs.IntakeLemmas.{went_on, took_none}
use Rattle.nbd_stream.proofs.long_write.read_on.Goals as goal

pub returns-in-Ok-true-clause-fetched : goal.returns-in-Ok-true-clause-fetched
returns-in-Ok-true-clause-fetched g c =
    let left = g.R.Read.remaining c.args.reader.now.inner in
    let later = g.R.Read.remaining c.append_buffered.new.self.inner in
    let write = c.args.write in
    let parts = c.into_parts-payload.ensures in
    let payload = c.append_buffered.new.payload in
    let ready = c.keep.new.ready.items in
    let kept = taken_in c.keep.new.begun nothing_held in
    let longer = subst (λ (h : RequestHead). Lengthens left later c.into_parts-payload.result.1 payload h.length) parts.head (c.in-Ok-true.ensures.some c.in-Ok-true.field-0-test) in
    went_on left later c.args.reader.now.failures c.append_buffered.new.self.failures write payload ready kept c.keep.result
    (subst (λ (p : List ℕ). Lengthens left later p payload write.head.length) parts.payload longer)
    (subst (λ (h : RequestHead). TakesIn [] (head_text h ++ payload) ready kept c.keep.result) parts.head c.keep.ensures.taken)
    c.append_buffered.ensures.failures

pub returns-in-Ok-false-clause-fetched : goal.returns-in-Ok-false-clause-fetched
returns-in-Ok-false-clause-fetched g c =
    let left = g.R.Read.remaining c.append_buffered.new.self.inner in
    let later = g.R.Read.remaining c.read_by_buffer.new.reader.inner in
    let now = c.read_by_buffer.new.reader.failures in
    let write = c.args.write in
    let parts = c.into_parts-payload.ensures in
    let ready = c.read_by_buffer.new.ready.items in
    let kept = taken_in c.read_by_buffer.new.begun nothing_held in
    let result = c.read_by_buffer.result in
    let text : head_text c.into_parts-payload.result.0 ++ c.append_buffered.new.payload ≡ request_text write =
    ap (λ (h : RequestHead). head_text h ++ c.append_buffered.new.payload) parts.head
    ∙ ap (λ (p : List ℕ). head_text write.head ++ p) (c.in-Ok-false.ensures.none c.in-Ok-false.field-0-test ∙ parts.payload) in
    subst (λ (x : Option (List ℕ)). Fetches x later c.args.reader.now.failures now (request_text write) ready kept result) (c.in-Ok-false.ensures.left c.in-Ok-false.field-0-test)
    (subst (λ (n : ℕ). Fetches left later n now (request_text write) ready kept result) c.append_buffered.ensures.failures
    (subst (λ (t : List ℕ). Fetches left later c.append_buffered.new.self.failures now t ready kept result) text c.read_by_buffer.ensures.fetched))

pub returns-in-Ok-false-clause-more : goal.returns-in-Ok-false-clause-more
returns-in-Ok-false-clause-more g c =
    let write = c.args.write in
    let parts = c.into_parts-payload.ensures in
    let kept = taken_in c.read_by_buffer.new.begun nothing_held in
    let text : head_text c.into_parts-payload.result.0 ++ c.append_buffered.new.payload ≡ request_text write =
    ap (λ (h : RequestHead). head_text h ++ c.append_buffered.new.payload) parts.head
    ∙ ap (λ (p : List ℕ). head_text write.head ++ p) (c.in-Ok-false.ensures.none c.in-Ok-false.field-0-test ∙ parts.payload) in
    subst (λ (t : List ℕ). IfOk c.read_by_buffer.result (λ (fault : Option FeedFault). fault ≡ None → c.read_by_buffer.new.ready.items ≡ [] → length t < length kept.held)) text c.read_by_buffer.ensures.more

pub returns-in-Err-clause-fetched : goal.returns-in-Err-clause-fetched
returns-in-Err-clause-fetched g c =
    let left = g.R.Read.remaining c.args.reader.now.inner in
    let later = g.R.Read.remaining c.append_buffered.new.self.inner in
    let kept = taken_in c.args.begun.now nothing_held in
    took_none left later c.args.reader.now.failures c.append_buffered.new.self.failures (request_text c.args.write) c.args.ready.now.items kept
    c.in-Err.ensures.err c.append_buffered.ensures.failures c.requires.none
