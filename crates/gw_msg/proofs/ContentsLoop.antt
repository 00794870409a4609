-- The contents of an action as a loop reads them: the properties that were read before, and what is still read.
use Rattle.std.proofs.lemmas.Grind.{common_steps}
use Rattle.std.proofs.Common.{◌≡◌, ℕ, zero, suc, ◌<◌, true, false, cond, List, [], ◌∷◌, ◌++◌, length, Option, Some, None, Err, ap, sym, ◌∙◌, append_assoc, arith}
use Rattle.std.proofs.lemmas.List.{append-nil}
use Rattle.gw_text.specs.Lexical.{comma}
use Rattle.gw_text.specs.Runs.{begins}
use Rattle.gw_text.specs.Sign.{sign_at}
use Rattle.gw_text.specs.Reader.{◌>>=◌, or_else, if_sign, list_at}
use Rattle.gw_text.specs.Parts.{Gives}
use Rattle.gw_text.specs.declared.fault.ParseFault.{ParseFault}
use Rattle.gw_text.specs.declared.fault.ParseFault.TheVariants.{Syntax, NoMemory}
use Rattle.gw_text.proofs.FormLaws.{sign_shrinks}
use Rattle.gw_msg.specs.declared.message.Command.{Command}
use Rattle.gw_msg.specs.declared.message.ContextProp.{ContextProp}
use Rattle.gw_msg.specs.Words.{is_context_property_start}
use Rattle.gw_msg.specs.Reading.{command_at, context_property_at, Contents, behind_property, commands_alone_at, contents_from, contents_at}
use Rattle.gw_msg.proofs.ActionParts.{alone_of, one_of, front_of}
use Rattle.gw_msg.proofs.ContextLaws.{context_property_shrinks}

abbrev pub Found : Type 0
Found = Option (Contents × List ℕ)

-- the properties that were read before, in front of what is still read
abbrev pub with_front : List ContextProp → Found → Found
with_front front None = None
with_front front (Some x) = Some ((front ++ x.0.0, x.0.1), x.1)

-- a property in front of what is still read
abbrev one_more : ContextProp → Found → Found
one_more p o = o >>= λ x. Some (front_of p x.0, x.1)

front_first : (front : List ContextProp) (p : ContextProp) (o : Found) → with_front front (one_more p o) ≡ with_front (front ++ p ∷ []) o
front_first front p o = grind (arith, append_assoc)

-- ---- fuel

same_bind : {A B : Type 0} (o : Option A) (f g : A → Option B) → ((x : A) → o ≡ Some x → f x ≡ g x) → (o >>= f) ≡ (o >>= g)
same_bind o f g h = grind arith

same_else : {A B : Type 0} (o : Option A) (f g : A → Option B) (d : Option B) → ((x : A) → o ≡ Some x → f x ≡ g x) → or_else o f d ≡ or_else o g d
same_else o f g d h = grind arith

-- more fuel changes nothing
enough : (n m : ℕ) (text : List ℕ) → length text < n → length text < m → contents_from n text ≡ contents_from m text
unfolding contents_from
enough zero m text p q = absurd (omega (arith, p))
enough (suc n) zero text p q = absurd (omega (arith, q))
enough (suc n) (suc m) text p q =
    ap (λ (o : Found). cond (begins is_context_property_start text) o (commands_alone_at text))
    (same_bind (context_property_at text) (λ x. if_sign comma (behind_property x.0 (contents_from n)) (λ rest. Some (one_of x.0, rest)) x.1) (λ x. if_sign comma (behind_property x.0 (contents_from m)) (λ rest. Some (one_of x.0, rest)) x.1)
    (λ x e. same_else (sign_at comma x.1) (behind_property x.0 (contents_from n)) (behind_property x.0 (contents_from m)) (Some (one_of x.0, x.1))
    (λ more c. ap (one_more x.0) (enough n m more (omega (arith, p, context_property_shrinks text x.0 x.1 e, sign_shrinks comma x.1 more c)) (omega (arith, q, context_property_shrinks text x.0 x.1 e, sign_shrinks comma x.1 more c))))))

-- ---- single steps

abbrev on_property : ℕ → Option (ContextProp × List ℕ) → Found
on_property fuel o = o >>= λ x. if_sign comma (behind_property x.0 (contents_from fuel)) (λ rest. Some (one_of x.0, rest)) x.1

property_step : (text : List ℕ) → begins is_context_property_start text ≡ true → contents_at text ≡ on_property (length text) (context_property_at text)
unfolding contents_from
property_step text is = grind (arith, common_steps)

-- a property was read, and a comma behind it
pub goes_on : (front : List ContextProp) (text rest more : List ℕ) (p : ContextProp) (total : Found) → begins is_context_property_start text ≡ true → context_property_at text ≡ Some (p, rest) → sign_at comma rest ≡ Some more
    → with_front front (contents_at text) ≡ total → with_front (front ++ p ∷ []) (contents_at more) ≡ total
goes_on front text rest more p total is e c so_far =
    let less : length more < length text = omega (arith, context_property_shrinks text p rest e, sign_shrinks comma rest more c) in
    let one : contents_at text ≡ one_more p (contents_at more) =
    property_step text is ∙ ap (on_property (length text)) e ∙ ap (λ (o : Option (List ℕ)). or_else o (behind_property p (contents_from (length text))) (Some (one_of p, rest))) c
    ∙ ap (one_more p) (enough (length text) (suc (length more)) more less (omega arith)) in
    sym (front_first front p (contents_at more)) ∙ ap (with_front front) (sym one) ∙ so_far

-- a property was read, and no comma behind it
pub ends : (front : List ContextProp) (text rest : List ℕ) (p : ContextProp) (total : Found) → begins is_context_property_start text ≡ true → context_property_at text ≡ Some (p, rest) → sign_at comma rest ≡ None
    → with_front front (contents_at text) ≡ total → total ≡ Some ((front ++ p ∷ [], []), rest)
ends front text rest p total is e c so_far = grind (arith, property_step, one_of)

-- no property was read
pub fails : (fault : ParseFault) (front : List ContextProp) (text after end : List ℕ) (total : Found) → begins is_context_property_start text ≡ true → Gives {V = ContextProp} (Err fault) after (context_property_at text)
    → with_front front (contents_at text) ≡ total → Gives {V = Contents} (Err fault) end total
fails Syntax front text after end total is e so_far = sym so_far ∙ ap (with_front front) (property_step text is ∙ ap (on_property (length text)) e)
fails NoMemory front text after end total is e so_far = tt

-- there are no more properties
no_property : (text : List ℕ) → begins is_context_property_start text ≡ false → contents_at text ≡ commands_alone_at text
unfolding contents_from
no_property text is = grind (arith, common_steps)

abbrev alone : Option (List Command × List ℕ) → Found
alone o = o >>= λ x. Some (alone_of x.0, x.1)

pub commands_end : (front : List ContextProp) (text after : List ℕ) (commands : List Command) (total : Found) → begins is_context_property_start text ≡ false → list_at command_at text ≡ Some (commands, after)
    → with_front front (contents_at text) ≡ total → total ≡ Some ((front, commands), after)
commands_end front text after commands total is e so_far = grind (arith, no_property, append-nil)

pub commands_fail : (fault : ParseFault) (front : List ContextProp) (text after end : List ℕ) (total : Found) → begins is_context_property_start text ≡ false → Gives {V = List Command} (Err fault) after (list_at command_at text)
    → with_front front (contents_at text) ≡ total → Gives {V = Contents} (Err fault) end total
commands_fail Syntax front text after end total is e so_far = sym so_far ∙ ap (with_front front) (no_property text is ∙ ap alone e)
commands_fail NoMemory front text after end total is e so_far = tt

pub read_less : (text rest more : List ℕ) (p : ContextProp) → context_property_at text ≡ Some (p, rest) → sign_at comma rest ≡ Some more → length more < length text
read_less text rest more p e c = omega (arith, context_property_shrinks text p rest e, sign_shrinks comma rest more c)
