-- The intake that is found is the one of documents 01 and 02: of no member, of one, of more.
use Rattle.std.proofs.Common.{ℕ, ◌≤◌, ◌<◌, ◌≡◌, refl, ◌∙◌, ap, subst, List, [], ◌∷◌, length, get_or, arith}
use Rattle.rows.specs.declared.VersionNo.{VersionNo}
use Rattle.rules.specs.Trail.{Trail}
use Rattle.rules.specs.Start.{start_of}
use Rattle.rules.specs.Marks.{seeded}
use Rattle.rules.specs.Forward.{starts_of, forward_intake}
use Rattle.intake.specs.Traceable.{Traceable}
use Rattle.intake.specs.Intake.{last_intake, LeastIntake}
use Rattle.intake.proofs.IntakeIs.{last_intake_is, intake_of_starts}

-- where the checks pass, in buffers with a byte for each row
pub several_found : (T : Trail) (us : List ℕ) (t : ℕ) → Traceable T us → (m₀ m : List ℕ) (r : ℕ) → T.counts.versions ≡ length m₀
    → m ≡ seeded (length m₀) (starts_of T us t) → LeastIntake T.version T.edge t T.counts.edges m T.counts.last r
    → 2 ≤ length us → r ≡ forward_intake T us t
several_found T us t p m₀ m r l q o h =
    intake_of_starts T p.rows t us p.declared r (subst (λ x. LeastIntake T.version T.edge t T.counts.edges x T.counts.last r) (rw (← l) at q) o) (λ z. omega arith)

-- a list of one
pub one_found : (T : Trail) (us : List ℕ) (t : ℕ) → Traceable T us → 1 ≤ length us → length us < 2 → (s : VersionNo) (r : ℕ)
    → s.0 ≡ start_of T (get_or us 0 0) t → r ≡ last_intake T.version T.edge s.0 t T.counts.edges → r ≡ forward_intake T us t
unfolding forward_intake
one_found T [] t p l h s r q e = absurd (omega arith)
one_found T (u ∷ []) t p l h s r q e = e ∙ ap (λ v. last_intake T.version T.edge v t T.counts.edges) q ∙ last_intake_is T p.rows t (start_of T u t)
one_found T (u ∷ (v ∷ us)) t p l h s r q e = absurd (omega arith)

-- an empty list
pub none_found : (T : Trail) (us : List ℕ) (t : ℕ) → length us < 1 → 0 ≡ forward_intake T us t
unfolding forward_intake
none_found T [] t l = refl
none_found T (u ∷ us) t l = absurd (omega arith)
