-- Which actions own a context number (RFC 3525, section 6.1.1; that they own it is own).
use Rattle.std.specs.Prelude.{Bool, true, false}
use Rattle.gw_base.specs.declared.command_words.CtxRef.{CtxRef}
use Rattle.gw_base.specs.declared.command_words.CtxRef.TheVariants.{Null, All, Choose, Num}

abbrev pub is_choose : CtxRef → Bool
is_choose Choose = true
is_choose Null = false
is_choose All = false
is_choose (Num n) = false
