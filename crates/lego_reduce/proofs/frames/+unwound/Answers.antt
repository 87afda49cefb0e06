use Rattle.std.proofs.Common.{◌≡◌, ap, ◌∙◌}
use Rattle.std.proofs.lemmas.Result.{IfOk-weaker}
use Rattle.lego_term.specs.Trees.{Core, App}
use Rattle.lego_reduce.specs.declared.frames.Frame.TheVariants.{Argument, First, Second}
use Rattle.lego_reduce.specs.private.Frames.{plug}
use Rattle.lego_reduce.proofs.FrameLemmas.{plug-push}
use Rattle.lego_reduce.proofs.frames.+unwound.Goals as goal

pub returns-in-Ok-clause-whole : goal.returns-in-Ok-clause-whole
returns-in-Ok-clause-whole t c =
    let fs = c.args.frames.now.items in
    let m : Core = c.in-App.function.now in
    let n : Core = c.in_ok-argument-in-App.argument in
    let pushed : plug c.push.new.self.items m ≡ plug fs (App c.in-App.mark m n) = ap (λ l. plug l m) c.in-Ok.ensures.ok ∙ plug-push fs (Argument c.in-App.mark n) m in
    let same : App c.in-App.mark m n ≡ c.args.term.now = ap (App c.in-App.mark m) c.in_ok-argument-in-App.ensures.same ∙ c.in-App.ensures.root in
    IfOk-weaker c.unwound.result _ _ (λ head e. e ∙ (pushed ∙ ap (plug fs) same)) c.unwound.ensures.whole

pub returns-in-Ok-push-clause-whole : goal.returns-in-Ok-push-clause-whole
returns-in-Ok-push-clause-whole t c =
    let fs = c.args.frames.now.items in
    IfOk-weaker c.unwound-in-Fst.result _ _ (λ head e. e ∙ (ap (λ l. plug l c.in-Fst.of.now) c.in-Ok-push.ensures.ok ∙ (plug-push fs First c.in-Fst.of.now ∙ ap (plug fs) c.in-Fst.ensures.root))) c.unwound-in-Fst.ensures.whole

pub returns-in-Ok-push-2-clause-whole : goal.returns-in-Ok-push-2-clause-whole
returns-in-Ok-push-2-clause-whole t c =
    let fs = c.args.frames.now.items in
    IfOk-weaker c.unwound-in-Snd.result _ _ (λ head e. e ∙ (ap (λ l. plug l c.in-Snd.of.now) c.in-Ok-push-2.ensures.ok ∙ (plug-push fs Second c.in-Snd.of.now ∙ ap (plug fs) c.in-Snd.ensures.root))) c.unwound-in-Snd.ensures.whole
