-- Proofs that the output and the counted room keep the laws of a sink. They stand here since the `impl`s name them.
use Rattle.std.specs.Prelude.{ℕ, suc, ◌+◌, ◌≡◌, List, [], ◌∷◌, ◌++◌, length}
use Rattle.std.proofs.Common.{arith, length-append, refl, sym, ap, ◌∙◌}
use Rattle.std.proofs.Math.Seq.{length-sets}
use Rattle.std.proofs.Math.ListN.{set}
use Rattle.std.proofs.lemmas.List.Edits.{sets}
use native.Mathlib.Nat.{add-zero}
use Rattle.words.specs.Sink.{SinkLaws}
use Rattle.words.specs.Output.{Put, Fits, Written}
use Rattle.words.specs.Room.{IsCounted, Lessened}

pub room_laws : SinkLaws IsCounted Lessened
room_laws = record {
  none = λ {s}. omega arith;
  join = λ {s} {t} {u} {p} {q} e f. omega (arith, length-append p q);
  room_first = λ {s} {p} q r. tt;
  room_rest = λ {s} {t} {p} {q} e r. tt;
}

sets-++ : (out : List ℕ) (at : ℕ) (p q : List ℕ) → sets out at (p ++ q) ≡ sets (sets out at p) (at + length p) q
sets-++ out at [] q = ap (λ (k : ℕ). sets out k q) (sym (add-zero at))
sets-++ out at (b ∷ p) q =
    let e : suc at + length p ≡ at + suc (length p) = omega arith in
    sets-++ (set out at b) (suc at) p q ∙ ap (λ (k : ℕ). sets (sets (set out at b) (suc at) p) k q) e

put_then : {o₀ o₁ o₂ p q : List ℕ} {at a₁ a₂ : ℕ} → Put o₀ at p a₁ o₁ → Put o₁ a₁ q a₂ o₂ → Put o₀ at (p ++ q) a₂ o₂
put_then {o₀ = o₀} {p = p} {q = q} {at = at} x y = record {
  place = let e = x.place in let f = y.place in rw (length-append p q) (omega arith);
  bytes_are = y.bytes_are ∙ rw (x.bytes_are, x.place) (sym (sets-++ o₀ at p q));
}

put_length : {o₀ o₁ p : List ℕ} {at a₁ : ℕ} → Put o₀ at p a₁ o₁ → length o₁ ≡ length o₀
put_length {o₀ = o₀} {p = p} {at = at} x = ap length x.bytes_are ∙ length-sets o₀ at p

pub output_laws : SinkLaws Fits Written
output_laws = record {
  none = λ {s}. (refl, record { place = sym (add-zero s.at); bytes_are = refl });
  join = λ {s} {t} {u} {p} {q} e f. (f.0 ∙ e.0, put_then e.1 f.1);
  room_first = λ {s} {p} q r. omega (arith, length-append p q);
  room_rest = λ {s} {t} {p} {q} e r. omega (arith, length-append p q, put_length e.1, e.1.place);
}
