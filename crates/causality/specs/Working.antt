-- Any working of records that drops, widens and renews where it may: what each record does to the rows in use.
use Rattle.std.specs.Prelude.{ℕ, suc, ◌≤◌, ◌<◌, ◌≡◌, ◌⊎◌, List, [], ◌∷◌}
use Rattle.record.specs.declared.Event.{Event}
use Rattle.record.specs.Layout.{kind_no}
use Rattle.rules.specs.Trail.{Trail, none, latest_of, owner_of}
use Rattle.rules.specs.Forward.{ForwardMarks}
use Rattle.rules.specs.History.{Item, kept, dropped}

-- What is read of a trail

-- how many entities, versions and edges
abbrev pub ne : Trail → ℕ
ne T = T.counts.entities

abbrev pub nv : Trail → ℕ
nv T = T.counts.versions

abbrev pub nd : Trail → ℕ
nd T = T.counts.edges

-- a version's start, its previous version
abbrev pub start_time : Trail → ℕ → ℕ
start_time T a = (T.version a).start

abbrev pub previous_of : Trail → ℕ → ℕ
previous_of T a = (T.version a).previous.0

-- an edge goes from version a to version b at t
pub record EdgeIn (T : Trail) (a b t : ℕ) : Type 0 where
  pub number : ℕ
  pub inside : number < nd T
  pub from : (T.edge number).from.0 ≡ a
  pub to : (T.edge number).to.0 ≡ b
  pub time : (T.edge number).time ≡ t

-- version a is the previous of version b
pub record PrevIn (T : Trail) (a b : ℕ) : Type 0 where
  pub inside : b < nv T
  pub some : previous_of T b ≡ none → ⊥
  pub is : previous_of T b ≡ a

-- entity x has a version among those marked
pub record EntityMarked (T : Trail) (M : ℕ → Type 0) (x : ℕ) : Type 0 where
  pub version : ℕ
  pub marked : M version
  pub owner : owner_of T version ≡ x

-- a path of edges and version steps leads from version s to some version of entity v
abbrev pub Leads : Trail → ℕ → ℕ → Type 0
Leads T s v = EntityMarked T (ForwardMarks T s) v

-- no edge leaves version w
abbrev pub Unused : Trail → ℕ → Type 0
Unused T w = (b t : ℕ) → EdgeIn T w b t → ⊥

-- What a record does to it

-- the versions of T, but for their ends, and its edges, but for counts and last times, stand in T'
pub record Keeps (T T' : Trail) : Type 0 where
  pub owner_old : (a : ℕ) → a < nv T → owner_of T' a ≡ owner_of T a
  pub start_old : (a : ℕ) → a < nv T → start_time T' a ≡ start_time T a
  pub previous_old : (a : ℕ) → a < nv T → previous_of T' a ≡ previous_of T a
  pub from_old : (k : ℕ) → k < nd T → (T'.edge k).from.0 ≡ (T.edge k).from.0
  pub to_old : (k : ℕ) → k < nd T → (T'.edge k).to.0 ≡ (T.edge k).to.0
  pub kind_old : (k : ℕ) → k < nd T → (T'.edge k).kind ≡ (T.edge k).kind
  pub time_old : (k : ℕ) → k < nd T → (T'.edge k).time ≡ (T.edge k).time

-- the same rows in use, but for sorts, ends, and counts and last times of edges
pub record Same (T T' : Trail) : Type 0 where
  pub ne_is : ne T' ≡ ne T
  pub nv_is : nv T' ≡ nv T
  pub nd_is : nd T' ≡ nd T
  pub latest_old : (y : ℕ) → y < ne T → latest_of T' y ≡ latest_of T y
  pub old : Keeps T T'

-- T' is T with an entity and its first version
pub record Declares (T T' : Trail) : Type 0 where
  pub ne_is : ne T' ≡ suc (ne T)
  pub nv_is : nv T' ≡ suc (nv T)
  pub nd_is : nd T' ≡ nd T
  pub latest_new : latest_of T' (ne T) ≡ nv T
  pub latest_old : (y : ℕ) → y < ne T → latest_of T' y ≡ latest_of T y
  pub owner_new : owner_of T' (nv T) ≡ ne T
  pub start_new : start_time T' (nv T) ≡ 0
  pub previous_new : previous_of T' (nv T) ≡ none
  pub old : Keeps T T'

-- the edge enters the target's latest version, which no edge leaves; or a new version
pub record Wide (T T' : Trail) (e : Event) (w : ℕ) : Type 0 where
  pub is : w ≡ latest_of T e.target.0
  pub nv_is : nv T' ≡ nv T
  pub unused : Unused T w

pub record New (T T' : Trail) (e : Event) (w : ℕ) : Type 0 where
  pub is : w ≡ nv T
  pub nv_is : nv T' ≡ suc (nv T)
  pub owner : owner_of T' w ≡ e.target.0
  pub start : start_time T' w ≡ e.time
  pub some : previous_of T' w ≡ none → ⊥
  pub previous : previous_of T' w ≡ latest_of T e.target.0

-- T' is T with an edge for e, which enters version w
pub record AddsEdge (T T' : Trail) (e : Event) (w : ℕ) : Type 0 where
  pub ne_is : ne T' ≡ ne T
  pub nd_is : nd T' ≡ suc (nd T)
  pub latest_target : latest_of T' e.target.0 ≡ w
  pub latest_other : (y : ℕ) → y < ne T → (y ≡ e.target.0 → ⊥) → latest_of T' y ≡ latest_of T y
  pub from_new : (T'.edge (nd T)).from.0 ≡ latest_of T e.source.0
  pub to_new : (T'.edge (nd T)).to.0 ≡ w
  pub kind_new : (T'.edge (nd T)).kind ≡ kind_no e.kind
  pub time_new : (T'.edge (nd T)).time ≡ e.time
  pub shape : Wide T T' e w ⊎ New T T' e w
  pub old : Keeps T T'

-- Trails grown from a fresh one

-- the last accepted time, 0 if there is none
abbrev pub last_of : List Item → ℕ
last_of [] = 0
last_of (kept e ∷ hs) = e.time
last_of (dropped e ∷ hs) = e.time

-- what an event needs to be accepted after a last time; times may be equal
pub record Fit (T : Trail) (last : ℕ) (e : Event) : Type 0 where
  pub source_in : e.source.0 < ne T
  pub target_in : e.target.0 < ne T
  pub apart : e.source.0 ≡ e.target.0 → ⊥
  pub not_earlier : last ≤ e.time
  pub positive : 1 ≤ e.time

-- an event may be dropped if its source's latest version leads to its target already
abbrev pub MayDrop : Trail → Event → Type 0
MayDrop T e = Leads T (latest_of T e.source.0) e.target.0

pub data Grown : Trail → List Item → Type 0 where
  begun : {T : Trail} → ne T ≡ 0 → nv T ≡ 0 → nd T ≡ 0 → Grown T []
  declared : {T T' : Trail} {hs : List Item} → Grown T hs → Declares T T' → Grown T' hs
  repeated : {T : Trail} {hs : List Item} → Grown T hs → (e : Event) → Fit T (last_of hs) e → MayDrop T e → Grown T (dropped e ∷ hs)
  entered : {T T' : Trail} {hs : List Item} → Grown T hs → (e : Event) → Fit T (last_of hs) e → (w : ℕ) → AddsEdge T T' e w
      → Grown T' (kept e ∷ hs)
