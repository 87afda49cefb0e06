use Rattle.std.proofs.Common.{sym, subst}
use Rattle.lego_term.specs.Trees.{Pi, Lam, Sigma}
use Rattle.lego_grammar.specs.declared.surface.Kind.{Kind}
use Rattle.lego_grammar.specs.Reading.{binder, bind_core}
use Rattle.lego_reading.specs.private.Parts.{IsMade}
use Rattle.lego_reading.proofs.reading.bound.Goals as goal

pub returns-in-Lambda : goal.returns-in-Lambda
returns-in-Lambda c =
    subst (λ (kind : Kind). IsMade (bind_core kind (binder c.args.name c.args.head.now.mark) c.args.domain.now c.args.body.now) c.made.result) (sym c.in-Lambda.is)
    (c.made.ensures (Lam (binder c.args.name c.args.head.now.mark) c.args.domain.now c.args.body.now) c.lam.ensures)

pub returns-in-Pi : goal.returns-in-Pi
returns-in-Pi c =
    subst (λ (kind : Kind). IsMade (bind_core kind (binder c.args.name c.args.head.now.mark) c.args.domain.now c.args.body.now) c.made-in-Pi.result) (sym c.in-Pi.is)
    (c.made-in-Pi.ensures (Pi (binder c.args.name c.args.head.now.mark) c.args.domain.now c.args.body.now) c.pi.ensures)

pub returns-in-Sigma : goal.returns-in-Sigma
returns-in-Sigma c =
    subst (λ (kind : Kind). IsMade (bind_core kind (binder c.args.name c.args.head.now.mark) c.args.domain.now c.args.body.now) c.made-in-Sigma.result) (sym c.in-Sigma.is)
    (c.made-in-Sigma.ensures (Sigma (binder c.args.name c.args.head.now.mark) c.args.domain.now c.args.body.now) c.sigma.ensures)
