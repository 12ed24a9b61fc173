-- What a walk over a graph holds, and how it changes.
use Rattle.std.specs.Prelude.{◌≡◌, ℕ, ◌+◌, ◌*◌, ◌-◌, ◌<◌, ◌≤◌, List, [], ◌∷◌, ◌++◌, All, length, take, drop}
use Rattle.std.specs.Prelude.{replicate, slice_index, slice_index_or, slice_set, count_by}
use Rattle.least_ranks.specs.declared.state.State.{State}
use Rattle.least_ranks.specs.declared.state.State.TheVariants.{New, Waiting, Ranked}
use Rattle.least_ranks.specs.Inside.States.{is_new}

-- the states of all nodes; the nodes of the path; how many slots of each of those are passed; the places of those that
-- have slots left; and the places at which parts of the path begin
pub record Trail : Type 0 where
  pub states : List State
  pub path : List ℕ
  pub passed : List ℕ
  pub busy : List ℕ
  pub parts : List ℕ

abbrev pub state_in : List State → ℕ → State
state_in states node = slice_index_or states node New

abbrev pub state_of : Trail → ℕ → State
state_of trail node = state_in trail.states node

-- before the walk begins
abbrev pub fresh : ℕ → Trail
fresh count = record { states = replicate count New; path = []; passed = []; busy = []; parts = [] }

-- at a new node
abbrev pub entered : Trail → ℕ → Trail
entered trail node = let place = length trail.path in record {
  states = slice_set trail.states node (Waiting place);
  path = trail.path ++ node ∷ [];
  passed = trail.passed ++ 0 ∷ [];
  busy = trail.busy ++ place ∷ [];
  parts = trail.parts ++ place ∷ [];
}

-- with so many slots of the node at this place passed
abbrev pub passed_on : Trail → ℕ → ℕ → Trail
passed_on trail place slots = record trail { passed = slice_set trail.passed place slots }

-- without the last node that had slots left
abbrev pub left : Trail → Trail
left trail = record trail { busy = take (length trail.busy - 1) trail.busy }

-- with this rank for each of these nodes
abbrev pub rank_all : ℕ → List ℕ → List State → List State
rank_all rank [] states = states
rank_all rank (node ∷ nodes) states = rank_all rank nodes (slice_set states node (Ranked rank))

-- without the last part, whose nodes have their rank
abbrev pub settled : Trail → ℕ → ℕ → Trail
settled trail start rank = record {
  states = rank_all rank (drop start trail.path) trail.states;
  path = take start trail.path;
  passed = take start trail.passed;
  busy = trail.busy;
  parts = take (length trail.parts - 1) trail.parts;
}

-- numbers that rise
pub record IsRising (numbers : List ℕ) : Type 0 where
  pub rises : (i j : ℕ) → i < j → j < length numbers → slice_index numbers i < slice_index numbers j

pub record EndsWith (numbers : List ℕ) (last : ℕ) : Type 0 where
  pub front : List ℕ
  pub is : numbers ≡ front ++ last ∷ []

-- the second list has what the first has up to this number
pub record IsCut (all few : List ℕ) (most : ℕ) : Type 0 where
  pub rest : List ℕ
  pub is : all ≡ few ++ rest
  pub within : All (λ n. n ≤ most) few
  pub above : All (λ n. most < n) rest

-- the second walk has the parts from a place on in one
pub record IsJoined (old new : Trail) (place : ℕ) : Type 0 where
  pub parts : IsCut old.parts new.parts place
  pub others : new ≡ record old { parts = new.parts }

-- the last node with slots left is at this place, and no part begins after it
pub record IsTop (trail : Trail) (place : ℕ) : Type 0 where
  pub last : EndsWith trail.busy place
  pub above : All (λ start. start ≤ place) trail.parts

-- no node of the last part has slots left
abbrev pub IsIdle : Trail → Type 0
IsIdle trail = (start : ℕ) → EndsWith trail.parts start → All (λ place. place < start) trail.busy

-- how many nodes the walk hasn't come to
abbrev pub new_count : Trail → ℕ
new_count trail = count_by is_new trail.states

-- how much of the walk is to come at most
abbrev pub work_left : Trail → ℕ
work_left trail = 3 * new_count trail + length trail.busy + length trail.parts
