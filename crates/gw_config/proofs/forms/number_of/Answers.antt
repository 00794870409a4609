use Rattle.std.proofs.Common.{sym, subst}
use Rattle.gw_base.specs.Bytes.{is_digit}
use Rattle.gw_text.specs.Forms.{IsSomeRun, IsUint32}
use Rattle.gw_config.proofs.Values.{whole, some_run, no_uint32}
use Rattle.gw_config.proofs.forms.number_of.Goals as goal

pub returns-else-is_empty : goal.returns-else-is_empty
returns-else-is_empty c = λ n is.
    let number = subst (IsUint32 n) (sym c.new-cursor.ensures) is in
    let end = whole (IsSomeRun is_digit) c.new-cursor.result c.in-Ok.number.span.now c.uint32.new.self c.in-Ok.ensures.span.0 (some_run n c.new-cursor.result number) in
    let t = c.is_empty.ensures.1 end in
    absurd cc

pub returns-in-Err : goal.returns-in-Err
returns-in-Err c = λ n is. no_uint32 c.new-cursor.result c.in-Err.field-0 c.in-Err.ensures.fault n (subst (IsUint32 n) (sym c.new-cursor.ensures) is)
