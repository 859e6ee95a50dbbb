-- What is read where there is something to read: the ballot at an index of a list, the head of a record.
use Prim.Native.Nat.{ℕ, ◌<◌}
use mathlib.Core.Path.{◌≡◌, ap, ◌∙◌}
use mathlib.Core.List.{List}
use mathlib.Core.Bool.{Bool, cond}
use lib.ListN.{length}
use lib.Dec.{ltb, eqb}
use borrow.Author.Tests.{lt-ltb, eq-eqb}
use Rattle.rules.specs.declared.Ballot.{Ballot}
use Rattle.rules.specs.declared.Head.{Head}
use Rattle.rules.specs.Sizes.{record_bytes}
use Rattle.rules.specs.Ballot.{ballot_at, zero_ballot}
use Rattle.rules.specs.Head.{zero_head}
use Rattle.rules.specs.Tick.{ballots}
use Rattle.rules.specs.Record.{head_at}

-- what `ballot_at` gives, for every index
abbrev pub listed_at : List ℕ → ℕ → Ballot
listed_at l i = cond (ltb i (ballots l)) (ballot_at l i) zero_ballot

pub ballot_there : (l : List ℕ) (i : ℕ) {b : Ballot} → b ≡ listed_at l i → i < ballots l → b ≡ ballot_at l i
ballot_there l i is there = is ∙ ap (λ (t : Bool). cond t (ballot_at l i) zero_ballot) (lt-ltb i (ballots l) there)

-- what `head_at` gives, for bytes of every length
abbrev pub held_in : List ℕ → Head
held_in r = cond (eqb (length r) record_bytes) (head_at r) zero_head

pub head_held : (r : List ℕ) {h : Head} → h ≡ held_in r → length r ≡ record_bytes → h ≡ head_at r
head_held r is long = is ∙ ap (λ (t : Bool). cond t (head_at r) zero_head) (eq-eqb (length r) record_bytes long)
