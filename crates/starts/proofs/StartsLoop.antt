-- The loop that marks the start versions of the members: the first i are done.
use Rattle.std.proofs.Common.{ℕ, ◌+◌, ◌≤◌, ◌<◌, ◌≡◌, refl, sym, ◌∙◌, ap, Bool, true, false, cond, List, [], ◌∷◌, ◌++◌, length, get_or, set, take, replicate, eqb, arith, add-one}
use Rattle.std.proofs.lemmas.List.{map-append, set_comm}
use native.Mathlib.Decide.{dec_lt, ℕ_discrete}
use mathlib.Core.List.{Memᴰ}
use lib.Seq.{take-suc, take_all, set_out}
use borrow.Author.Tests.{eqb-true}
use Rattle.rules.specs.Trail.{Trail}
use Rattle.rules.specs.Start.{start_of}
use Rattle.rules.specs.Marks.{seeded}
use Rattle.rules.specs.Forward.{starts_of}
use Rattle.rules.proofs.Members.{mem_map}
use Rattle.closure.proofs.Closed.{length-seeded, marked_seeded, seeded_marked}
use Rattle.closure.proofs.Marks.{set_marked}
use Rattle.starts.specs.EntityList.{StartMarked}

set_twice : (m : List ℕ) (a b : ℕ) → set (set m a 1) b 1 ≡ set (set m b 1) a 1
set_twice m a b = go (ℕ_discrete a b)
  where
    go : Dec (a ≡ b) → set (set m a 1) b 1 ≡ set (set m b 1) a 1
    go (yes q) = rw q refl
    go (no q) = set_comm m a b 1 1 q

-- a seed that is there already adds no mark
seeded_again : (n : ℕ) (ss : List ℕ) (s : ℕ) → Memᴰ s ss → set (seeded n ss) s 1 ≡ seeded n ss
seeded_again n ss s k = go (dec_lt s n)
  where
    go : Dec (s < n) → set (seeded n ss) s 1 ≡ seeded n ss
    go (yes l) = set_marked (seeded n ss) s (marked_seeded n ss s l k)
    go (no l) = set_out (seeded n ss) s 1 (omega (arith, length-seeded n ss))

-- the order of the seeds does not count
seeded_push : (n : ℕ) (ss : List ℕ) (s : ℕ) → seeded n (ss ++ s ∷ []) ≡ set (seeded n ss) s 1
unfolding seeded
seeded_push n [] s = refl
seeded_push n (a ∷ ss) s = ap (λ m. set m a 1) (seeded_push n ss s) ∙ set_twice (seeded n ss) s a

pub record Marks (T : Trail) (t n e : ℕ) (us work seen : List ℕ) : Type 0 where
  pub starts : work ≡ seeded n (starts_of T us t)
  pub members : seen ≡ seeded e us

module _ (T : Trail) (t n e : ℕ) where
  marks_push : (us work seen : List ℕ) → Marks T t n e us work seen → (u : ℕ) (work' seen' : List ℕ) → StartMarked T t u work seen work' seen'
      → Marks T t n e (us ++ u ∷ []) work' seen'
  marks_push us work seen i u work' seen' w = record {
    starts =
        w.start
        ∙ go (eqb (get_or seen u 0) 1) refl
        ∙ ap (λ m. set m (start_of T u t) 1) i.starts
        ∙ sym (seeded_push n (starts_of T us t) (start_of T u t))
        ∙ ap (seeded n) (sym (map-append (λ v. start_of T v t) us (u ∷ [])));
    members = w.member ∙ ap (λ m. set m u 1) i.members ∙ sym (seeded_push e us u);
  }
    where
      go : (b : Bool) → eqb (get_or seen u 0) 1 ≡ b → cond b work (set work (start_of T u t) 1) ≡ set work (start_of T u t) 1
      go false q = refl
      go true q =
          let k = seeded_marked e us u (ap (λ m. get_or m u 0) (sym i.members) ∙ eqb-true _ _ q) in
          rw i.starts (sym (seeded_again n (starts_of T us t) (start_of T u t) ((mem_map (λ v. start_of T v t) us (start_of T u t)).1 (u, k, refl))))

  pub marks_start : (us work seen work₀ seen₀ : List ℕ) → work ≡ replicate (length work₀) 0 → seen ≡ replicate (length seen₀) 0 → n ≡ length work₀ → e ≡ length seen₀
      → Marks T t n e (take 0 us) work seen
  unfolding seeded
  marks_start us work seen work₀ seen₀ p q l h = record { starts = rw l p; members = rw h q }

  module _ (us : List ℕ) (i : ℕ) (work seen : List ℕ) (m : Marks T t n e (take i us) work seen) where
    pub marks_next : i < length us → (work' seen' : List ℕ) → StartMarked T t (get_or us i 0) work seen work' seen' → Marks T t n e (take (i + 1) us) work' seen'
    marks_next l work' seen' w = rw (add-one i, take-suc us i 0 l) (marks_push (take i us) work seen m (get_or us i 0) work' seen' w)

    pub marks_end : (n' : ℕ) → n ≡ n' → length us ≤ i → work ≡ seeded n' (starts_of T us t)
    marks_end n' q l = m.starts ∙ ap (λ vs. seeded n (starts_of T vs t)) (take_all i us l) ∙ ap (λ k. seeded k (starts_of T us t)) q
