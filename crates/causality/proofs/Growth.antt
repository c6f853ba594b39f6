-- Induction over the growth of a trail, with what is known at each record.
use Prim.Native.Nat.{ℕ}
use mathlib.Core.Path.{◌≡◌}
use mathlib.Core.List.{List, [], ◌∷◌}
use Rattle.record.specs.declared.Event.{Event}
use Rattle.rules.specs.Trail.{Trail}
use Rattle.rules.specs.History.{Item, kept, dropped}
use Rattle.causality.specs.Working.{ne, nv, nd, last_of, Fit, MayDrop, Grown, begun, declared, repeated, entered}
use Rattle.causality.proofs.Declared.{Declared, declared_facts}
use Rattle.causality.proofs.Invariant.{Inv, inv_begun, inv_later, inv_declared}
use Rattle.causality.proofs.Kept.{Kept, kept_facts}
use Rattle.causality.proofs.KeptInvariant.{inv_kept}

pub inv : {T : Trail} {hs : List Item} → Grown T hs → Inv T (last_of hs)
inv (begun e v d) = inv_begun e v d
inv (declared g d) = inv_declared (inv g) (declared_facts d)
inv (repeated g e f l) = inv_later e.time f.not_earlier (inv g)
inv (entered g e f w r) = inv_kept (kept_facts (inv g) f r)

abbrev pub OnBegun : (Trail → List Item → Type 0) → Type 0
OnBegun P = (T : Trail) → ne T ≡ 0 → nv T ≡ 0 → nd T ≡ 0 → P T []

abbrev pub OnDeclared : (Trail → List Item → Type 0) → Type 0
OnDeclared P = (T T' : Trail) (hs : List Item) → Grown T hs → Declared T T' → P T hs → P T' hs

abbrev pub OnDropped : (Trail → List Item → Type 0) → Type 0
OnDropped P =
    (T : Trail) (hs : List Item) (e : Event) → Grown T hs → Fit T (last_of hs) e → MayDrop T e → P T hs → P T (dropped e ∷ hs)

abbrev pub OnKept : (Trail → List Item → Type 0) → Type 0
OnKept P = (T T' : Trail) (hs : List Item) (e : Event) (w : ℕ) → Grown T hs → Kept T T' (last_of hs) e w → P T hs → P T' (kept e ∷ hs)

pub grown_ind : (P : Trail → List Item → Type 0) → OnBegun P → OnDeclared P → OnDropped P → OnKept P → {T : Trail} {hs : List Item} → Grown T hs → P T hs
grown_ind P b d r k (begun {T = T} x y z) = b T x y z
grown_ind P b d r k (declared {T = T} {T' = T'} {hs = hs} g s) = d T T' hs g (declared_facts s) (grown_ind P b d r k g)
grown_ind P b d r k (repeated {T = T} {hs = hs} g e f l) = r T hs e g f l (grown_ind P b d r k g)
grown_ind P b d r k (entered {T = T} {T' = T'} {hs = hs} g e f w s) = k T T' hs e w g (kept_facts (inv g) f s) (grown_ind P b d r k g)
