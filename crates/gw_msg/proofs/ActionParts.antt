-- The contents of an action, taken apart in front of the first comma: a property, and what is behind it.
use Rattle.std.proofs.lemmas.Grind.{common_steps}
use Rattle.std.proofs.Common.{◌⊎◌, inl, inr, ℕ, List, [], ◌∷◌, ◌++◌, refl, ap, sym, ◌∙◌, append_assoc, arith}
use Rattle.gw_base.specs.Lang.{Both, ◌▹◌}
use Rattle.gw_text.specs.Lexical.{comma}
use Rattle.gw_text.specs.Forms.{IsSign}
use Rattle.gw_text.proofs.FormLaws.{with_second}
use Rattle.gw_msg.specs.declared.message.Command.{Command}
use Rattle.gw_msg.specs.declared.message.ContextProp.{ContextProp}
use Rattle.gw_msg.specs.Grammar.{SpellsContextProperty, SpellsContents}
use Rattle.gw_msg.specs.Reading.{Contents}
use Rattle.gw_msg.proofs.Steps.{Done, nothing_more}

abbrev pub Spelled : Contents → List ℕ → Type 0
Spelled x = SpellsContents x.0 x.1

-- commands alone
abbrev pub alone_of : List Command → Contents
alone_of commands = ([], commands)

-- a property alone
abbrev pub one_of : ContextProp → Contents
one_of p = (p ∷ [], [])

-- a property more in front
abbrev pub front_of : ContextProp → Contents → Contents
front_of p x = (p ∷ x.0, x.1)

-- ---- three texts behind one another

behind_both : {P Q R : List ℕ → Type 0} (text : List ℕ) → ((P ▹ Q) ▹ R) text → (P ▹ Q ▹ R) text
behind_both text h = grind (arith, common_steps)

both_behind : {P Q R : List ℕ → Type 0} (text : List ℕ) → (P ▹ Q ▹ R) text → ((P ▹ Q) ▹ R) text
both_behind text h =
    let b = h.second in
    record {
      front = h.front ++ b.front;
      back = b.back;
      split = h.split ∙ ap (λ (x : List ℕ). h.front ++ x) b.split ∙ sym (append_assoc h.front b.front b.back);
      first = record { front = h.front; back = b.front; split = refl; first = h.first; second = b.first };
      second = b.second;
    }

-- ---- a property in front

pub in_front : (p : ContextProp) (ps : List ContextProp) (cs : List Command) (text : List ℕ) → (SpellsContextProperty p ▹ IsSign comma ▹ SpellsContents ps cs) text → SpellsContents (p ∷ ps) cs text
in_front p [] [] text h = absurd (h.second.second)
in_front p [] (c ∷ cs) text h = h
in_front p (q ∷ qs) [] text h = h
in_front p (q ∷ qs) (c ∷ cs) text h = both_behind text (with_second h (both_behind h.back h.second))

-- nothing is behind it, or a comma and more
abbrev pub BehindIt : ContextProp → List ContextProp → List Command → List ℕ → Type 0
BehindIt p ps cs text = Done (one_of p) (p ∷ ps, cs) text ⊎ Both (IsSign comma) (SpellsContents ps cs) text

pub split_front : (p : ContextProp) (ps : List ContextProp) (cs : List Command) (text : List ℕ) → SpellsContents (p ∷ ps) cs text → Both (SpellsContextProperty p) (BehindIt p ps cs) text
split_front p [] [] text h = nothing_more text h (inl (refl, refl))
split_front p [] (c ∷ cs) text h = with_second h (inr h.second)
split_front p (q ∷ qs) [] text h = with_second h (inr h.second)
split_front p (q ∷ qs) (c ∷ cs) text h =
    let one = behind_both text h in
    with_second one (inr (behind_both one.back one.second))
