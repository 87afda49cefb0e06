-- A code for sessions, by which a proof tells them apart.
use Rattle.std.specs.Prelude.{List, refl}
use Rattle.std.specs.Coded.{Coded, code_by, coded_list, coded×}
use Rattle.lego_context.specs.Contexts.{Contents}
use Rattle.lego_context.specs.ContentsCode.{contents_code}
use Rattle.lego_undo.specs.declared.state.State.{State}
use Rattle.lego_session.specs.Sessions.{Session}

abbrev state_code : Coded State
state_code = code_by Contents contents_code (λ s. s.context) (λ c. record { context = c }) (λ _. refl)

abbrev pub session_code : Coded Session
session_code =
    code_by (State × List State) (coded× state_code (coded_list state_code)) (λ s. (s.now, s.history))
    (λ p. record { now = p.0; history = p.1 }) (λ _. refl)
