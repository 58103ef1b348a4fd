-- `programs::Begun::push` meets its contract. Assumes nothing.
use borrow.Author.Tests.{lt-ltb, le-ltb}
use Rattle.text.specs.TapLines.{start_size}
use Rattle.programs.specs.Tapping.{begun_with}
use Rattle.programs.proofs.Begun.push.Goals as goal

pub returns-then-self-lt-BEGUN_SIZE : goal.returns-then-self-lt-BEGUN_SIZE
unfolding begun_with
returns-then-self-lt-BEGUN_SIZE c = rw (lt-ltb c.args.self.now.«length» start_size c.if-self-lt-BEGUN_SIZE.true)

pub returns-else-self-lt-BEGUN_SIZE : goal.returns-else-self-lt-BEGUN_SIZE
unfolding begun_with
returns-else-self-lt-BEGUN_SIZE c = rw (le-ltb c.args.self.now.«length» start_size c.if-self-lt-BEGUN_SIZE.false)
