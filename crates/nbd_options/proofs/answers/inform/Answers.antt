use Rattle.std.proofs.Common.{◌∙◌, sym}
use Rattle.nbd_options.proofs.InfoLemmas.{told_informed}
use Rattle.nbd_options.proofs.answers.inform.Goals as goal

pub returns : goal.returns
returns g c =
    let same = told_informed c.args.exports.now c.args.number c.args.content.now c.name_length-length.result c.in-Some.at c.index-exports-at.result
    (sym c.is_shaped.ensures ∙ c.if-not-is_shaped.false) c.name_length-length.ensures.value c.in-Some.ensures.value c.in-Some.ensures.within c.index-exports-at.is in
    rw (← same) c.tell.ensures
