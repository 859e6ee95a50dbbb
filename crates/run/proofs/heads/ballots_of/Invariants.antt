use Rattle.std.proofs.Common.{◌≡◌, length, take, map}
use Rattle.rules.specs.Ballot.{bytes_of}
use Rattle.rules.specs.Head.{ballot_of}
use Rattle.run.proofs.heads.ballots_of.Given as goal

abbrev pub invariant-loop-i : goal.invariant-loop-i
invariant-loop-i l = record {
  room : length l.ballots ≡ 32;
  so_far : take l.i l.ballots ≡ map (λ head. bytes_of (ballot_of head)) (take l.i l.heads);
}
