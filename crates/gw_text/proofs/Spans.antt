-- Readers of groups, and what spans that are kept as sent begin with.
use Rattle.std.proofs.Common.{◌≡◌, ℕ, true, List, ◌∷◌, ◌++◌, Some, Result, Ok, refl, ap, sym, ◌∙◌, arith}
use Rattle.gw_text.specs.Lexical.{left_brace, right_brace, quote_mark}
use Rattle.gw_text.specs.Runs.{begins, is_byte}
use Rattle.gw_text.specs.Quoted.{IsQuoted}
use Rattle.gw_text.specs.Octets.{IsOctetsOf}
use Rattle.gw_text.specs.Group.{IsGroup}
use Rattle.gw_text.specs.GroupScan.{balanced_at}
use Rattle.gw_text.specs.Reader.{group_read, found}
use Rattle.gw_text.specs.declared.fault.ScanFault.{ScanFault}
use Rattle.gw_text.proofs.Leaves.{found_ok}
use Rattle.gw_text.proofs.OctetsScans.{octets_again_at}
use Rattle.gw_text.proofs.ReadsUp.{ReadsUp, Same, Any}
use Rattle.gw_text.proofs.GroupPasses.{group_again}
use Rattle.gw_text.proofs.GroupSound.{group_span}

-- a group, braces and all
pub up_group : (depth : ℕ) → ReadsUp (group_read depth) (λ span text. (span ≡ text) × IsGroup depth text) Any Same Same
up_group depth = record {
  sound = λ text span rest e.
      let t = group_span depth text span rest (found_ok (balanced_at depth text) (span, rest) e) in
      (span, t.0, (refl, t.1));
  complete = λ span front rest start q n e. (rest, ap (group_read depth) e ∙ ap found (group_again depth front rest q.1) ∙ ap (λ (x : List ℕ). Some (x, rest)) (sym q.0), refl);
}

pub group_begins : (depth : ℕ) (text : List ℕ) → IsGroup depth text → begins (is_byte left_brace) text ≡ true
group_begins depth text h = ap (begins (is_byte left_brace)) h.split

pub quoted_begins : (text : List ℕ) → IsQuoted text → begins (is_byte quote_mark) text ≡ true
quoted_begins text h = ap (begins (is_byte quote_mark)) (h.split ∙ ap (λ (x : List ℕ). x ++ h.back) h.first)

span_is : (a b c d : List ℕ) → let r : Result (List ℕ × List ℕ) ScanFault = Ok (a, c) in r ≡ Ok (b, d) → a ≡ b
span_is a b c d e = grind arith

-- one group at most is at the front of a text
pub one_group : (depth : ℕ) (text g h rest more : List ℕ) → text ≡ g ++ rest → text ≡ h ++ more → IsGroup depth g → IsGroup depth h → g ≡ h
one_group depth text g h rest more p q a b = span_is g h rest more (sym (ap (balanced_at depth) p ∙ group_again depth g rest a) ∙ ap (balanced_at depth) q ∙ group_again depth h more b)

-- one text at most is kept of octets
pub one_octets : (body more span other : List ℕ) → IsOctetsOf span body → IsOctetsOf other body → span ≡ other
one_octets body more span other a b =
    let rest : List ℕ = right_brace ∷ more in
    span_is span other rest rest (sym (octets_again_at span body rest a refl) ∙ octets_again_at other body rest b refl)
