-- A context holds by Luo's rules alone.
use Rattle.lego_laws.specs.Entries.{entries_at}
use Rattle.lego_laws.proofs.lemmas.constants.ExpansionLaws.{expansion}
use Rattle.lego_inference.specs.Entries.{laws_entries}
use Rattle.lego_context.specs.Contexts.{Contents, IsContext, HoldsByLuosRules}

pub holds_by_luos_rules : (c : Contents) → IsContext c → HoldsByLuosRules c
holds_by_luos_rules c x v h = expansion (entries_at v (laws_entries c.entries)) (x.valid v h)
