-- What a call returned and left is what its equation says, so the claims hold of it.
use Prim.Native.Nat.{ℕ}
use mathlib.Core.Path.{◌≡◌, refl, sym, subst}
use mathlib.Core.List.{List}
use Rattle.rows.specs.declared.Counts.{Counts}
use Rattle.rules.specs.Trail.{Tables}
use Rattle.rules.specs.Batch.{Batched, batch_of}
use Rattle.rules.specs.Backward.{BackwardTrace, backward_of}
use Rattle.rules.specs.Forward.{ForwardTrace, forward_of}
use Rattle.rules.specs.KeptLog.{KeptLog, kept_log_of}
use Rattle.soundness.proofs.Frame.{frame}
use Rattle.closure.proofs.ByRelations.{traces_by_relations}
use Rattle.agreement.specs.Promises.{BatchPromise, BackwardPromise, ForwardPromise, LogPromise}
use Rattle.agreement.proofs.Left.{after-batch}
use Rattle.agreement.proofs.Demand2.{demand2}
use Rattle.agreement.proofs.Demand3.{next_backward, next_forward}
use Rattle.agreement.proofs.RoundTrip.{round_trip}

module _ (c : Counts) (t : Tables) where
  pub batch_promise : (file : List ℕ) (b : Batched) → b ≡ batch_of c t file → BatchPromise c t file b
  batch_promise file b q =
      subst (BatchPromise c t file) (sym q)
      (record {
        framed = frame c t file;
        goes_on = λ cs l. after-batch cs c t l file;
        answer = λ cs l. demand2.answer cs c t l file;
        holds = λ cs l. demand2.holds _ _ _ (after-batch cs c t l file);
      })

  pub backward_promise : (v time : ℕ) (work marks : List ℕ) (b : BackwardTrace) → b ≡ backward_of c t v time work marks → BackwardPromise c t v time work marks b
  backward_promise v time work marks b q =
      subst (BackwardPromise c t v time work marks) (sym q)
      (record {
        traced = (traces_by_relations.backward c t v time work marks _).0 refl;
        agrees = λ cs l. next_backward l v time work marks;
      })

  pub forward_promise : (us : List ℕ) (time : ℕ) (work marks : List ℕ) (f : ForwardTrace) → f ≡ forward_of c t us time work marks → ForwardPromise c t us time work marks f
  forward_promise us time work marks f q =
      subst (ForwardPromise c t us time work marks) (sym q)
      (record {
        traced = (traces_by_relations.forward c t us time work marks _).0 refl;
        agrees = λ cs l. next_forward l us time work marks;
      })

  pub log_promise : (out : List ℕ) (k : KeptLog) → k ≡ kept_log_of c t out → LogPromise c t out k
  log_promise out k q = subst (LogPromise c t out) (sym q) (λ cs l. round_trip cs c t l out)
