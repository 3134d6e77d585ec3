use Rattle.std.proofs.Common.{◌≡◌, ◌++◌, Some, take, ℕ, List, arith, sym, subst}
use Rattle.std.proofs.lemmas.List.{length-take}
use Rattle.nbd_session.specs.Haggling.{IsOffer}
use Rattle.nbd_stream.proofs.KnownLemmas.{Consumes-then}
use Rattle.nbd_options.specs.declared.haggle.HeadFault.{HeadFault}
use Rattle.nbd_options.specs.declared.haggle.HeadFault.TheVariants as faults
use Rattle.nbd_options.specs.Haggled.{head_fault}
use Rattle.nbd_session.proofs.OfferLemmas.{head_gap, head_stop}
use Rattle.nbd_session.proofs.option_input.read_option.Goals as goal

pub returns-in-Failed-clause-taken : goal.returns-in-Failed-clause-taken
returns-in-Failed-clause-taken g c =
    let part = take c.in-Failed.field-0 c.fill.new.buf in
    record {
      bytes = part;
      took = c.in-Failed.ensures.1;
      offer = head_gap c.args.haggle.now.seen part (omega (arith, length-take c.in-Failed.field-0 c.fill.new.buf, c.in-Failed.ensures.0));
      told = tt;
    }

pub returns-in-Ok-clause-taken : goal.returns-in-Ok-clause-taken
returns-in-Ok-clause-taken g c =
    let front = c.fill.new.buf in
    let behind = c.read_content.ensures.taken c.args.haggle.now.seen c.in-Ok.ensures.within.2 in
    record {
      bytes = front ++ behind.bytes;
      took = Consumes-then (g.R.Read.remaining c.args.reader.now.inner) (g.R.Read.remaining c.fill.new.reader.inner) (g.R.Read.remaining c.read_content.new.reader.inner) front behind.bytes c.in-Whole.ensures.0 behind.took;
      offer = subst (λ (t : List ℕ). IsOffer c.args.haggle.now.seen (t ++ behind.bytes) c.read_content.result) (sym c.in-Ok.ensures.ok.0) behind.offer;
      told = behind.told;
    }

pub returns-in-Err-BadMagic-clause-taken : goal.returns-in-Err-BadMagic-clause-taken
returns-in-Err-BadMagic-clause-taken g c = record {
  bytes = c.fill.new.buf;
  took = c.in-Whole.ensures.0;
  offer = head_stop c.args.haggle.now.seen c.fill.new.buf faults.BadMagic (omega arith) (subst (λ (f : HeadFault). head_fault c.args.haggle.now.seen c.fill.new.buf ≡ Some f) c.in-Err-BadMagic.field-0-is c.in-Err-BadMagic.ensures.err);
  told = tt;
}

pub returns-in-Err-TooMany-clause-taken : goal.returns-in-Err-TooMany-clause-taken
returns-in-Err-TooMany-clause-taken g c = record {
  bytes = c.fill.new.buf;
  took = c.in-Whole.ensures.0;
  offer = head_stop c.args.haggle.now.seen c.fill.new.buf faults.TooMany (omega arith) (subst (λ (f : HeadFault). head_fault c.args.haggle.now.seen c.fill.new.buf ≡ Some f) c.in-Err-TooMany.field-0-is c.in-Err-TooMany.ensures.err);
  told = tt;
}

pub returns-in-Err-TooLong-clause-taken : goal.returns-in-Err-TooLong-clause-taken
returns-in-Err-TooLong-clause-taken g c = record {
  bytes = c.fill.new.buf;
  took = c.in-Whole.ensures.0;
  offer = head_stop c.args.haggle.now.seen c.fill.new.buf faults.TooLong (omega arith) (subst (λ (f : HeadFault). head_fault c.args.haggle.now.seen c.fill.new.buf ≡ Some f) c.in-Err-TooLong.field-0-is c.in-Err-TooLong.ensures.err);
  told = tt;
}
