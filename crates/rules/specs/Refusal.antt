-- The number and the index that each refusal stands for. Document 01, 'Numbers given back'; W1 of document 02.
use Rattle.std.specs.Prelude.{ℕ}
use Rattle.rules.specs.declared.Refusal.{Refusal}
use Rattle.rules.specs.declared.Refusal.TheVariants.{NotHeads, Proposal, Unsound, Coin, Length, BreaksRule, OwnOtherwise, Contradicts, BothHeard, PhasesEnd, DecidesOtherwise}

-- "Numbers given back.": a refusal's number
abbrev pub number_of : Refusal → ℕ
number_of NotHeads = 1
number_of Proposal = 2
number_of Unsound = 3
number_of Coin = 4
number_of Length = 5
number_of (BreaksRule index) = 6
number_of (OwnOtherwise index) = 7
number_of (Contradicts index) = 8
number_of BothHeard = 9
number_of PhasesEnd = 10
number_of DecidesOtherwise = 11

-- W1: "the index, from 0, of the first offending ballot"; "Other numbers give index 0."
abbrev pub index_of : Refusal → ℕ
index_of NotHeads = 0
index_of Proposal = 0
index_of Unsound = 0
index_of Coin = 0
index_of Length = 0
index_of (BreaksRule index) = index
index_of (OwnOtherwise index) = index
index_of (Contradicts index) = index
index_of BothHeard = 0
index_of PhasesEnd = 0
index_of DecidesOtherwise = 0
