-- `starts_with` says whether the bytes are those of the word.
use Rattle.std.proofs.Common.{refl}
use Rattle.replay.proofs.Spelling.{starts, starts_not}
use Rattle.replay.proofs.words.Reader.literal.Goals as goal

pub returns-clause-ok : goal.returns-clause-ok
returns-clause-ok c = record {
  ends = refl;
  bytes = starts c.args.word.now c.rest.ensures c.starts_with.ensures.value c.if-not-starts_with.false;
}

pub returns-then-not-starts_with-clause-otherwise : goal.returns-then-not-starts_with-clause-otherwise
returns-then-not-starts_with-clause-otherwise c =
    starts_not c.args.word.now c.rest.ensures c.starts_with.ensures.value c.if-not-starts_with.true
