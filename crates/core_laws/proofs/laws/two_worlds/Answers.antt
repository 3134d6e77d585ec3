use Rattle.std.proofs.Common.{sym, ap, ◌∙◌}
use Rattle.lone_export.specs.Alone.{opening, alone, answers_alone}
use Rattle.core_laws.proofs.Runs.{told_alone, last_alone}
use Rattle.core_laws.proofs.laws.two_worlds.Goals as goal

pub returns-clause-told : goal.returns-clause-told
returns-clause-told g c = λ one two e terms agree. told_alone one e terms agree.there ∙ ap (answers_alone terms (opening terms)) agree.steps ∙ sym (told_alone two e terms agree.there_too)

pub returns-clause-last : goal.returns-clause-last
returns-clause-last g c = λ one two e terms agree. last_alone one e terms agree.there ∙ ap (alone terms (opening terms)) agree.steps ∙ sym (last_alone two e terms agree.there_too)
