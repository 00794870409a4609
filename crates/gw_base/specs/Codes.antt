-- The number and the text of each error code (numbers: H.248.8; texts: own).
use Rattle.std.specs.Prelude.{ℕ, List, codes}
use Rattle.gw_base.specs.declared.code.Code.{Code}
use Rattle.gw_base.specs.declared.code.Code.TheVariants.{SyntaxError, VersionNotSupported, UnknownContext, NoContextLeft, IllegalCombination, UnknownTermination, NoWildcardMatch, NoTerminationLeft, AlreadyInContext, ContextFull, NotInContext, CommandSyntax, UnknownCommand, UnknownDescriptor, IllegalDescriptor, DescriptorTwice, PropertyTwice, NotImplemented, InsufficientResources, ReplyTooLong}

-- what stands as the number in an error descriptor
abbrev pub number_of : Code → ℕ
number_of SyntaxError = 400
number_of VersionNotSupported = 406
number_of UnknownContext = 411
number_of NoContextLeft = 412
number_of IllegalCombination = 421
number_of UnknownTermination = 430
number_of NoWildcardMatch = 431
number_of NoTerminationLeft = 432
number_of AlreadyInContext = 433
number_of ContextFull = 434
number_of NotInContext = 435
number_of CommandSyntax = 442
number_of UnknownCommand = 443
number_of UnknownDescriptor = 444
number_of IllegalDescriptor = 447
number_of DescriptorTwice = 448
number_of PropertyTwice = 456
number_of NotImplemented = 501
number_of InsufficientResources = 510
number_of ReplyTooLong = 533

-- what stands as its text, without the quotation marks
abbrev pub code_text : Code → List ℕ
code_text SyntaxError = codes "Syntax error in message"
code_text VersionNotSupported = codes "Version not supported"
code_text UnknownContext = codes "Unknown ContextID"
code_text NoContextLeft = codes "No ContextIDs available"
code_text IllegalCombination = codes "Illegal combination of actions"
code_text UnknownTermination = codes "Unknown TerminationID"
code_text NoWildcardMatch = codes "No TerminationID matched a wildcard"
code_text NoTerminationLeft = codes "No TerminationID available"
code_text AlreadyInContext = codes "TerminationID already in a context"
code_text ContextFull = codes "Too many terminations in a context"
code_text NotInContext = codes "TerminationID not in the specified context"
code_text CommandSyntax = codes "Syntax error in command"
code_text UnknownCommand = codes "Unsupported or unknown command"
code_text UnknownDescriptor = codes "Unsupported or unknown descriptor"
code_text IllegalDescriptor = codes "Descriptor not legal in this command"
code_text DescriptorTwice = codes "Descriptor appears twice in a command"
code_text PropertyTwice = codes "Property appears twice in a descriptor"
code_text NotImplemented = codes "Not implemented"
code_text InsufficientResources = codes "Insufficient resources"
code_text ReplyTooLong = codes "Response exceeds maximum transport PDU size"
