use Rattle.std.proofs.Common.{arith, eqb-true}
use Rattle.toml_parser.proofs.LexicalLemmas.{IsCharBoundary-ascii_run}
use Rattle.nbd_text.specs.Fields.{is_space}
use Rattle.nbd_control.proofs.reading.trimmed.Goals as goal

pub split_at-requires : goal.split_at-requires
split_at-requires c =
    rw (c.spaces_in_front.ensures.count, c.as_bytes.ensures.value)
    (IsCharBoundary-ascii_run is_space c.args.text.now c.utf8.text (λ byte space. omega (arith, eqb-true byte 32 space)))
