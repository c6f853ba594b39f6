-- 5 for a list of entities by one test.
use Rattle.std.proofs.Common.{ℕ, ◌≡◌, refl, ap, Bool, true, false, ◌||◌, not, cond, List, [], ◌∷◌, ◌++◌, length, leb, ltb, Ok, Err}
use Rattle.refusals.specs.Refusals.{Check, check, first_of}
use Rattle.refusals.specs.declared.Refusal.TheVariants.{Unsound, Undeclared, BufferShort}
use Rattle.rows.specs.declared.Counts.{Counts}
use Rattle.rules.specs.Trail.{Tables, capacity_of, trail_of}
use Rattle.rules.specs.Sound.{is_sound}
use Rattle.rules.specs.Backward.{undeclared_checks, buffer_checks, trace_checks}
use Rattle.starts.specs.EntityList.{any_undeclared}

-- a check for each member is one check
one_check : (n : ℕ) (us : List ℕ) (cs : List Check) → first_of (undeclared_checks n us ++ cs) ≡ first_of (check (any_undeclared n us) Undeclared ∷ cs)
unfolding first_of
one_check n [] cs = refl
one_check n (u ∷ us) cs = go (leb n u) (one_check n us cs)
  where
    go : (b : Bool) → first_of (undeclared_checks n us ++ cs) ≡ cond (any_undeclared n us) (Err Undeclared) (first_of cs)
        → cond b (Err Undeclared) (first_of (undeclared_checks n us ++ cs)) ≡ cond (b || any_undeclared n us) (Err Undeclared) (first_of cs)
    go true q = refl
    go false q = q

-- 16, 5 and 14 of a trace
pub trace_checked : (c : Counts) (t : Tables) (us work marks : List ℕ)
    → first_of (trace_checks c t us work marks)
    ≡ cond (not (is_sound (capacity_of t) (trail_of c t))) (Err Unsound)
    (cond (any_undeclared c.entities us) (Err Undeclared)
    (cond (ltb (length work) c.versions) (Err BufferShort) (cond (ltb (length marks) c.entities) (Err BufferShort) (Ok tt))))
unfolding trace_checks first_of
trace_checked c t us work marks =
    ap (cond (not (is_sound (capacity_of t) (trail_of c t))) (Err Unsound)) (one_check c.entities us (buffer_checks c work marks))
