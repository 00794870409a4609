-- The keys of a row, one place after another.
use Rattle.std.proofs.Common.{◌≡◌, ℕ, ◌+◌, ◌-◌, ◌<◌, ◌≤◌, List, [], ◌∷◌, ◌++◌, length, take, drop, get_or, Option, None, ap, sym, ◌∙◌, length-append, arith}
use Rattle.std.proofs.lemmas.List.{length-map, length-take, map-append, take_more}
use Rattle.std.specs.Option.{option_map}
use Rattle.circular_buffer.specs.Buffer.{keep_last}
use Rattle.gw_kept.specs.declared.entry.Entry.{Entry}
use Rattle.gw_kept.specs.declared.entry.RequestKey.{RequestKey}
use Rattle.gw_kept.specs.Pairs.{key_of}
use Rattle.gw_kept.specs.Rows.{keys_in}
use Rattle.gw_kept.proofs.Forgetting.{keys_get}

-- so many places have the first keys
few_copied : (row items : List (Option Entry)) (i : ℕ) → i ≤ length row → keys_in items ≡ take i (keys_in row) → length items ≡ i
few_copied row items i l same = omega (arith, length-map items (option_map key_of), ap length same, length-take i (keys_in row), length-map row (option_map key_of))

pub copied : (row items : List (Option Entry)) (cap i : ℕ) (o : Option Entry) → length row ≤ cap → i < length row → option_map key_of o ≡ option_map key_of (get_or row i None) → keys_in items ≡ take i (keys_in row) → keys_in (keep_last cap (items ++ o ∷ [])) ≡ take (i + 1) (keys_in row)
copied row items cap i o fits l is same =
    let room : length (items ++ o ∷ []) - cap ≡ 0 = omega (arith, length-append items (o ∷ []), few_copied row items i (omega arith) same) in
    ap (λ (n : ℕ). keys_in (drop n (items ++ o ∷ []))) room
    ∙ map-append (option_map key_of) items (o ∷ [])
    ∙ ap (λ (ks : List (Option RequestKey)). ks ++ option_map key_of o ∷ []) same
    ∙ ap (λ (k : Option RequestKey). take i (keys_in row) ++ k ∷ []) (is ∙ sym (keys_get row i))
    ∙ sym (take_more (keys_in row) i None (omega (arith, length-map row (option_map key_of))))
