-- Laws of the crates below.
use Rattle.std.proofs.Common.{◌+◌, IsTrue, arith}
use Rattle.lego_laws.specs.RuleTypes.{nodes}
use Rattle.lego_inference.specs.Binders.{RuleTypesKeepBinders}
use Rattle.lego_inference.proofs.RuleTypeParts.{rule_type_parts}
use Rattle.lego_reading.specs.Binders.{ReadCoresKeepBinders}
use Rattle.lego_reading.specs.Readable.{ParsedTermsCanBeRead}
use Rattle.lego_reading.proofs.CoreLemmas.{binders_are_kept}
use Rattle.lego_reading.proofs.ReadableLemmas.{parsed_terms}

pub parsed_terms_can_be_read : ParsedTermsCanBeRead
parsed_terms_can_be_read = parsed_terms

pub read_cores_keep_binders : ReadCoresKeepBinders
read_cores_keep_binders = binders_are_kept

pub rule_types_keep_binders : RuleTypesKeepBinders
rule_types_keep_binders test es s m a in_entries types each rule =
    rule_type_parts (λ kind x. IsTrue (test kind x)) (λ k. Unit {0}) (λ l. Unit {0}) es in_entries tt (λ i. i) (s.first + nodes m) (λ i le. tt) (omega arith) types each rule
