use Rattle.std.proofs.Common.{◌++◌, List, [], ◌∷◌, ℕ, sym, ap, ap₂, ◌∙◌, length-set, arith}
use Rattle.std.proofs.lemmas.List.{take_more_set, map_more}
use Rattle.rules.specs.Ballot.{bytes_of}
use Rattle.rules.specs.Head.{zero_head}
use Rattle.run.proofs.heads.ballots_of.Goals as goal

-- written out, though the check finds it: so the edit note_sender_of_the_place_before is refused at the sender field
pub loop-i-preserved : goal.loop-i-preserved
loop-i-preserved c = record {
  room = rw length-set c.loop-i.invariant.room;
  so_far = take_more_set _ _ _ (omega arith)
      ∙ ap₂ (λ (sent : List (List ℕ)) (ballot : List ℕ). sent ++ ballot ∷ []) c.loop-i.invariant.so_far
      (c.ballot_bytes.ensures ∙ ap bytes_of c.own_ballot.ensures)
      ∙ sym (map_more _ _ c.loop-i.i zero_head c.loop-i-test.true);
}
