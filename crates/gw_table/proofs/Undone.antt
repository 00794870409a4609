-- Writes that are taken back: what is read then, and what one more write comes to.
use Rattle.std.proofs.Common.{nat_eq, ◌≡◌, ℕ, ◌<◌, length, get_or, Bool, true, false, cond, List, [], ◌∷◌, ◌++◌, bytes_eq, Option, is_some, refl, sym, ap, ◌∙◌}
use Rattle.std.specs.Prelude.{◌||◌}
use Rattle.std.specs.Bool.{OnTrue}
use Rattle.std.specs.List.{list_any}
use Rattle.std.proofs.lemmas.List.Folds.{list_any_at}
use Rattle.gw_base.specs.declared.ids.CtxNum.{CtxNum}
use Rattle.gw_base.specs.declared.key.Key.{Key}
use Rattle.gw_base.specs.declared.key.Key.TheVariants.{Term, Ctx, Whole}
use Rattle.gw_base.specs.Keys.{same_key, has}
use Rattle.gw_base.proofs.KeyTests.{same-itself}
use Rattle.gw_base.proofs.NameTests.{same_name, same_number}
use Rattle.gw_base.proofs.NamesInLists.{or_left, or_right}
use Rattle.gw_term.specs.declared.record.Termination.{Termination}
use Rattle.gw_ctx.specs.Contexts.{ContextRecord}
use Rattle.gw_table.specs.declared.undo_log.Write.{Write}
use Rattle.gw_table.specs.declared.undo_log.Write.TheVariants.{OfTerm, OfCtx}
use Rattle.gw_table.specs.Maps.{Maps, term, ctx, put_term, put_ctx, no_maps}
use Rattle.gw_table.specs.UndoLog.{key_written, keys_written, without_write, undone}
use Rattle.gw_table.specs.Stored.{has_entry}
use Rattle.gw_table.proofs.Leaving.{put_term-put_term, put_term-same, put_ctx-same}
use Rattle.gw_table.proofs.Lookups.{term-put_term, ctx-put_term, term-put_ctx, ctx-put_ctx, put_ctx-put_ctx, same_maps}

pub undone_more : (ws : List Write) (w : Write) (m : Maps) → undone (ws ++ w ∷ []) m ≡ undone ws (without_write w m)
undone_more [] w m = refl
undone_more (v ∷ ws) w m = ap (without_write v) (undone_more ws w m)

pub keys_more : (ws : List Write) (w : Write) → keys_written (ws ++ w ∷ []) ≡ keys_written ws ++ key_written w ∷ []
keys_more [] w = refl
keys_more (v ∷ ws) w = ap (λ (l : List Key). key_written v ∷ l) (keys_more ws w)

-- ---- at each key what its first write found there, and else the entry of the maps

first : {A : Type 0} (b h : Bool) (o x y : A) → cond b o (cond h x y) ≡ cond (b || h) (cond b o x) y
first true h o x y = refl
first false h o x y = refl

term-undone : (ws : List Write) (m : Maps) (q : List ℕ) → term (undone ws m) q ≡ cond (has (keys_written ws) (Term q)) (term (undone ws no_maps) q) (term m q)
term-undone [] m q = refl
term-undone (OfTerm t o ∷ ws) m q =
    term-put_term (undone ws m) t o q ∙ ap (cond (bytes_eq q t) o) (term-undone ws m q) ∙ first (bytes_eq q t) (has (keys_written ws) (Term q)) o (term (undone ws no_maps) q) (term m q)
    ∙ ap (λ x. cond (bytes_eq q t || has (keys_written ws) (Term q)) x (term m q)) (sym (term-put_term (undone ws no_maps) t o q))
term-undone (OfCtx n o ∷ ws) m q =
    term-put_ctx (undone ws m) n o q ∙ term-undone ws m q ∙ ap (λ x. cond (has (keys_written ws) (Term q)) x (term m q)) (sym (term-put_ctx (undone ws no_maps) n o q))

ctx-undone : (ws : List Write) (m : Maps) (q : CtxNum) → ctx (undone ws m) q ≡ cond (has (keys_written ws) (Ctx q)) (ctx (undone ws no_maps) q) (ctx m q)
ctx-undone [] m q = refl
ctx-undone (OfTerm t o ∷ ws) m q =
    ctx-put_term (undone ws m) t o q ∙ ctx-undone ws m q ∙ ap (λ x. cond (has (keys_written ws) (Ctx q)) x (ctx m q)) (sym (ctx-put_term (undone ws no_maps) t o q))
ctx-undone (OfCtx n o ∷ ws) m q =
    ctx-put_ctx (undone ws m) n o q ∙ ap (cond (nat_eq q.0 n.0) o) (ctx-undone ws m q) ∙ first (nat_eq q.0 n.0) (has (keys_written ws) (Ctx q)) o (ctx (undone ws no_maps) q) (ctx m q)
    ∙ ap (λ x. cond (nat_eq q.0 n.0 || has (keys_written ws) (Ctx q)) x (ctx m q)) (sym (ctx-put_ctx (undone ws no_maps) n o q))

-- where none of them has the key, there is an entry if there was one
pub entry-undone : (ws : List Write) (m : Maps) (k : Key) → has (keys_written ws) k ≡ false → has_entry (undone ws m) k ≡ has_entry m k
entry-undone ws m (Term t) h = ap (λ o. is_some o) (term-undone ws m t) ∙ ap (λ b. is_some (cond b (term (undone ws no_maps) t) (term m t))) h
entry-undone ws m (Ctx n) h = ap (λ o. is_some o) (ctx-undone ws m n) ∙ ap (λ b. is_some (cond b (ctx (undone ws no_maps) n) (ctx m n))) h
entry-undone ws m Whole h = refl

-- ---- one more write, of what is logged as it stood there

pub undone_term : (ws : List Write) (m : Maps) (t : List ℕ) (o before : Option Termination) → before ≡ term m t → undone (ws ++ OfTerm t before ∷ []) (put_term m t o) ≡ undone ws m
undone_term ws m t o before e = undone_more ws (OfTerm t before) (put_term m t o) ∙ ap (undone ws) (put_term-put_term m t o before ∙ put_term-same m t before e)

pub undone_ctx : (ws : List Write) (m : Maps) (n : CtxNum) (o before : Option ContextRecord) → before ≡ ctx m n → undone (ws ++ OfCtx n before ∷ []) (put_ctx m n o) ≡ undone ws m
undone_ctx ws m n o before e = undone_more ws (OfCtx n before) (put_ctx m n o) ∙ ap (undone ws) (put_ctx-put_ctx m n o before ∙ put_ctx-same m n before e)

-- or of a key that was written before
there_already : {A : Type 0} (h b : Bool) (x o y : A) → (b ≡ true → h ≡ true) → cond h x (cond b o y) ≡ cond h x y
there_already true b x o y f = refl
there_already false true x o y f = absurd (let clash : false ≡ true = f refl in cc)
there_already false false x o y f = refl

pub undone_term_again : (ws : List Write) (m : Maps) (t : List ℕ) (o : Option Termination) → has (keys_written ws) (Term t) ≡ true → undone ws (put_term m t o) ≡ undone ws m
undone_term_again ws m t o h = same_maps (undone ws (put_term m t o)) (undone ws m)
    (λ q. term-undone ws (put_term m t o) q ∙ ap (λ x. cond (has (keys_written ws) (Term q)) (term (undone ws no_maps) q) x) (term-put_term m t o q)
    ∙ there_already (has (keys_written ws) (Term q)) (bytes_eq q t) (term (undone ws no_maps) q) o (term m q) (λ e. ap (λ (x : List ℕ). has (keys_written ws) (Term x)) (same_name q t e) ∙ h) ∙ sym (term-undone ws m q))
    (λ q. ctx-undone ws (put_term m t o) q ∙ ap (λ x. cond (has (keys_written ws) (Ctx q)) (ctx (undone ws no_maps) q) x) (ctx-put_term m t o q) ∙ sym (ctx-undone ws m q))

pub undone_ctx_again : (ws : List Write) (m : Maps) (n : CtxNum) (o : Option ContextRecord) → has (keys_written ws) (Ctx n) ≡ true → undone ws (put_ctx m n o) ≡ undone ws m
undone_ctx_again ws m n o h = same_maps (undone ws (put_ctx m n o)) (undone ws m)
    (λ q. term-undone ws (put_ctx m n o) q ∙ ap (λ x. cond (has (keys_written ws) (Term q)) (term (undone ws no_maps) q) x) (term-put_ctx m n o q) ∙ sym (term-undone ws m q))
    (λ q. ctx-undone ws (put_ctx m n o) q ∙ ap (λ x. cond (has (keys_written ws) (Ctx q)) (ctx (undone ws no_maps) q) x) (ctx-put_ctx m n o q)
    ∙ there_already (has (keys_written ws) (Ctx q)) (nat_eq q.0 n.0) (ctx (undone ws no_maps) q) o (ctx m q) (λ e. ap (λ (x : CtxNum). has (keys_written ws) (Ctx x)) (same_number q n e) ∙ h) ∙ sym (ctx-undone ws m q))

-- ---- a key that is found among the writes

any_mapped : (p : Key → Bool) (ws : List Write) → list_any (λ w. p (key_written w)) ws ≡ list_any p (keys_written ws)
any_mapped p [] = refl
any_mapped p (w ∷ ws) = ap (λ b. p (key_written w) || b) (any_mapped p ws)

pub one_of_them : (ws : List Write) (i : ℕ) (w : Write) (k : Key) (b : Bool) → i < length ws → w ≡ get_or ws i w → b ≡ same_key k (key_written w) → OnTrue b (has (keys_written ws) k ≡ true)
one_of_them ws i w k true h is e = sym (any_mapped (same_key k) ws) ∙ list_any_at (λ x. same_key k (key_written x)) ws i w h (ap (λ (x : Write). same_key k (key_written x)) (sym is) ∙ sym e)
one_of_them ws i w k false h is e = tt

-- ---- the last write

either_way : (a b c : Bool) → (a || b) ≡ true → (b ≡ true → c ≡ true) → (a || c) ≡ true
either_way true b c h f = refl
either_way false b c h f = f h

pub last_written : (ws : List Write) (w : Write) → has (keys_written (ws ++ w ∷ [])) (key_written w) ≡ true
last_written [] w = or_left (same_key (key_written w) (key_written w)) false (same-itself (key_written w))
last_written (v ∷ ws) w = or_right (same_key (key_written w) (key_written v)) (has (keys_written (ws ++ w ∷ [])) (key_written w)) (last_written ws w)

pub written_before : (ws : List Write) (w : Write) (k : Key) → has (keys_written ws) k ≡ true → has (keys_written (ws ++ w ∷ [])) k ≡ true
written_before [] w k h = absurd cc
written_before (v ∷ ws) w k h = either_way (same_key k (key_written v)) (has (keys_written ws) k) (has (keys_written (ws ++ w ∷ [])) k) h (written_before ws w k)
