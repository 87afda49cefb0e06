use Rattle.std.proofs.Common.{IsTrue}
use Rattle.lego_laws.specs.Entries.{core_bodies}
use Rattle.lego_inference.specs.Binders.{BindersPass}
use Rattle.lego_inference.proofs.PartLemmas.{parts_head}
use Rattle.lego_inference.proofs.RuleTypeParts.{body_holds}
use Rattle.lego_inference.proofs.laws.head_forms_keep_binders.Goals as goal

pub returns : goal.returns
returns c =
    λ test es t h in_entries each head.
    parts_head (λ kind x. IsTrue (test kind x)) (λ k. Unit {0}) (λ l. Unit {0}) (core_bodies es) (body_holds (BindersPass test) es in_entries) head each
