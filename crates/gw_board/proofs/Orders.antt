-- Lists of which each item has a property, and each item and a later one a relation; and one of whose items is replaced.
use Rattle.std.proofs.Common.{List, [], ◌∷◌, ◌++◌}
use Rattle.gw_board.specs.Fitting.{Each, InOrder}

module _ {X : Type 0} where
  pub each_both : {P Q S : X → Type 0} → ((x : X) → P x → Q x → S x) → (xs : List X) → Each P xs → Each Q xs → Each S xs
  each_both f [] p q = tt
  each_both {P} {Q} {S} f (x ∷ xs) p q = (f x p.0 q.0, each_both {P = P} {Q = Q} {S = S} f xs p.1 q.1)

  pub each_map : {P Q : X → Type 0} → ((x : X) → P x → Q x) → (xs : List X) → Each P xs → Each Q xs
  each_map f [] p = tt
  each_map {P} {Q} f (x ∷ xs) p = (f x p.0, each_map {P = P} {Q = Q} f xs p.1)

  pub each_front : (P : X → Type 0) (before after : List X) → Each P (before ++ after) → Each P before
  each_front P [] after h = tt
  each_front P (x ∷ xs) after h = (h.0, each_front P xs after h.1)

  pub each_behind : (P : X → Type 0) (before after : List X) → Each P (before ++ after) → Each P after
  each_behind P [] after h = h
  each_behind P (x ∷ xs) after h = each_behind P xs after h.1

  pub each_joined : (P : X → Type 0) (before after : List X) → Each P before → Each P after → Each P (before ++ after)
  each_joined P [] after h g = g
  each_joined P (x ∷ xs) after h g = (h.0, each_joined P xs after h.1 g)

  module _ (P : X → Type 0) (R : X → X → Type 0) where
    pub each_in : (xs : List X) → InOrder P R xs → Each P xs
    each_in [] h = tt
    each_in (x ∷ xs) h = (h.0, each_in xs h.2)

    pub front_in : (before after : List X) → InOrder P R (before ++ after) → InOrder P R before
    front_in [] after h = tt
    front_in (x ∷ xs) after h = (h.0, each_front (R x) xs after h.1, front_in xs after h.2)

    pub behind_in : (before after : List X) → InOrder P R (before ++ after) → InOrder P R after
    behind_in [] after h = h
    behind_in (x ∷ xs) after h = behind_in xs after h.2

    -- each earlier item stands in the relation to this one
    pub earlier_in : (before after : List X) (x : X) → InOrder P R (before ++ x ∷ after) → Each (λ y. R y x) before
    earlier_in [] after x h = tt
    earlier_in (y ∷ ys) after x h = ((each_behind (R y) ys (x ∷ after) h.1).0, earlier_in ys after x h.2)

  -- ---- one is replaced, and the properties and relations change

  module _ (P Q : X → Type 0) (R S : X → X → Type 0) (B : X → Type 0) (keep : (y : X) → B y → P y → Q y) (pairs : (y z : X) → B y → B z → R y z → S y z) where
    pub in_order_on : (xs : List X) → Each B xs → InOrder P R xs → InOrder Q S xs
    in_order_on [] b h = tt
    in_order_on (x ∷ xs) b h = (keep x b.0 h.0, each_both {P = B} {Q = R x} {S = S x} (λ z c r. pairs x z b.0 c r) xs b.1 h.1, in_order_on xs b.1 h.2)

    module _ (x new : X) (self : Q new) (later : (y : X) → B y → R x y → S new y) where
      pub replaced : (before after : List X) → Each B before → Each B after → Each (λ y. S y new) before → InOrder P R (before ++ x ∷ after) → InOrder Q S (before ++ new ∷ after)
      replaced [] after b c e h = (self, each_both {P = B} {Q = R x} {S = S new} (λ z d r. later z d r) after c h.1, in_order_on after c h.2)
      replaced (y ∷ ys) after b c e h =
          let front : Each (S y) ys = each_both {P = B} {Q = R y} {S = S y} (λ z d r. pairs y z b.0 d r) ys b.1 (each_front (R y) ys (x ∷ after) h.1) in
          let rest : Each (R y) (x ∷ after) = each_behind (R y) ys (x ∷ after) h.1 in
          let behind : Each (S y) after = each_both {P = B} {Q = R y} {S = S y} (λ z d r. pairs y z b.0 d r) after c rest.1 in
          (keep y b.0 h.0, each_joined (S y) ys (new ∷ after) front (e.0, behind), replaced ys after b.1 c e.1 h.2)
