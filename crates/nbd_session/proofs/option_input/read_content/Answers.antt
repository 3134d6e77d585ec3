use Rattle.std.proofs.Common.{[], take, arith}
use Rattle.std.proofs.lemmas.List.{length-take}
use Rattle.nbd_session.specs.declared.outcomes.End.TheVariants.{Cut}
use Rattle.nbd_stream.proofs.BufferLemmas.{Consumes-none}
use Rattle.nbd_session.proofs.OfferLemmas.{content_gap}
use Rattle.nbd_session.proofs.option_input.read_content.Goals as goal

pub returns-in_default-clause-taken : goal.returns-in_default-clause-taken
returns-in_default-clause-taken g c seen few = record {
  bytes = [];
  took = Consumes-none (g.R.Read.remaining c.args.reader.now.inner);
  offer = (Cut, content_gap seen c.args.number c.args.count [] (omega arith) c.requires few (omega arith));
  told = tt;
}

pub returns-in-Ended-clause-taken : goal.returns-in-Ended-clause-taken
returns-in-Ended-clause-taken g c seen few = record {
  bytes = take c.in-Ended.field-0 c.fill.new.buf;
  took = c.in-Ended.ensures.1;
  offer = content_gap seen c.args.number c.args.count (take c.in-Ended.field-0 c.fill.new.buf) (omega arith) c.requires few (omega (arith, length-take c.in-Ended.field-0 c.fill.new.buf, c.in-Ended.ensures.0, c.fill.auto.buf, c.in-Ok.ensures.len, c.deref_mut.ensures.len));
  told = c.in-Ended.ensures.2;
}

pub returns-in-Failed-clause-taken : goal.returns-in-Failed-clause-taken
returns-in-Failed-clause-taken g c seen few = record {
  bytes = take c.in-Failed.field-0 c.fill.new.buf;
  took = c.in-Failed.ensures.1;
  offer = (Cut, content_gap seen c.args.number c.args.count (take c.in-Failed.field-0 c.fill.new.buf) (omega arith) c.requires few (omega (arith, length-take c.in-Failed.field-0 c.fill.new.buf, c.in-Failed.ensures.0, c.fill.auto.buf, c.in-Ok.ensures.len, c.deref_mut.ensures.len)));
  told = tt;
}
