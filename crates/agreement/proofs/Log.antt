-- The records of the kept log, in the order of the file, are its plain list turned round; its events are the kept events.
use Prim.Native.Nat.{ℕ, zero, suc, ◌<◌}
use native.Mathlib.Omega.{arith}
use native.Mathlib.Decide.{ℕ_discrete}
use mathlib.Core.Path.{◌≡◌, refl, sym, ◌∙◌, ap}
use mathlib.Core.List.{List, [], ◌∷◌, ◌++◌, append_assoc, reverse, reverse_aux, reverse_aux-append, reverse_aux-eq}
use lib.ListN.{length}
use Rattle.record.specs.declared.Event.{Event}
use Rattle.record.specs.declared.Record.{Record}
use Rattle.rules.specs.Trail.{Trail}
use Rattle.rules.specs.KeptLog.{declaration_record, event_record}
use Rattle.causality.specs.Statements.{Logged}
use Rattle.kept_log.specs.LogRecords.{records_below, log_records, signed_records}
use Rattle.agreement.proofs.Relogged.{descending, relogged}
use Rattle.agreement.proofs.SignedAgain.{with_signatures, with_signatures-reverse}

-- two trails whose edges are the same events
pub events-same : (T U : Trail) (ks : List Event) → Logged T ks → Logged U ks → (k : ℕ) → k < length ks → event_record U k ≡ event_record T k
events-same T U [] a b k l = absurd (omega arith)
events-same T U (e ∷ ks) a b k l = go (ℕ_discrete k (length ks)) (λ h. events-same T U ks a.2 b.2 k h)
  where
    go : Dec (k ≡ length ks) → (k < length ks → event_record U k ≡ event_record T k) → event_record U k ≡ event_record T k
    go (yes q) ih = rw q (b.0 ∙ sym a.0)
    go (no q) ih = ih (omega arith)

records_below-reverse : (f : ℕ → Record) (n : ℕ) (more : List Record) → records_below f n ++ more ≡ reverse_aux (descending f n) more
unfolding records_below
records_below-reverse f zero more = refl
records_below-reverse f (suc n) more = append_assoc (records_below f n) (f n ∷ []) more ∙ records_below-reverse f n (f n ∷ more)

relogged_is : (T : Trail) (ks : List Event) → Logged T ks → relogged T ks ≡ descending (event_record T) (length ks) ++ descending (declaration_record T) T.counts.entities
relogged_is T [] a = refl
relogged_is T (e ∷ ks) a = λ j. sym a.0 j ∷ relogged_is T ks a.2 j

pub log_records-reverse : (T : Trail) (ks : List Event) → T.counts.edges ≡ length ks → Logged T ks → log_records T ≡ reverse (with_signatures T.entity T.counts.entities (relogged T ks))
unfolding log_records
log_records-reverse T ks q a =
    let D = descending (declaration_record T) T.counts.entities in
    let E = descending (event_record T) (length ks) in
    let S = signed_records T.entity T.counts.entities in
    let e : records_below (event_record T) T.counts.edges ++ S ≡ reverse_aux E S
    = ap (λ (n : ℕ). records_below (event_record T) n ++ S) q ∙ records_below-reverse (event_record T) (length ks) S in
    records_below-reverse (declaration_record T) T.counts.entities _ ∙ ap (reverse_aux D) e ∙ sym (reverse_aux-append E D S)
    ∙ ap (λ (z : List Record). reverse_aux z S) (sym (relogged_is T ks a)) ∙ reverse_aux-eq (relogged T ks) S
    ∙ sym (with_signatures-reverse T.entity T.counts.entities (relogged T ks))
