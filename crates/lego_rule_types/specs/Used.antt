-- The parts of a term from whose rule types its own is read.
use Rattle.lego_term.specs.declared.binder.Binder.{Binder}
use Rattle.lego_term.specs.declared.binder.Mark.{Mark}
use Rattle.lego_term.specs.Trees.{Core, Pi, Lam, App, Fst, Snd, Let, instantiate}
use Rattle.lego_laws.specs.Places.{Site, behind, under}
use Rattle.lego_laws.specs.RuleTypes.{nodes}

-- The rule type of the second term, at its site, is used for that of the first, at its own: it is that term, or a used part of the
-- body of a product or a function, of the function of an application, of the operand of a projection, or of the body of a local
-- definition with the value put in.
pub data IsUsed : Site → Core → Site → Core → Type 0 where
  whole : {s : Site} {m : Core} → IsUsed s m s m
  product_body : {s s' : Site} {x : Binder} {a b n : Core} → IsUsed (under x a (behind 1 s)) b s' n → IsUsed s (Pi x a b) s' n
  function_body : {s s' : Site} {x : Binder} {a m n : Core} → IsUsed (under x a s) m s' n → IsUsed s (Lam x a m) s' n
  applied : {s s' : Site} {k : Mark} {f m n : Core} → IsUsed s f s' n → IsUsed s (App k f m) s' n
  first_of : {s s' : Site} {m n : Core} → IsUsed s m s' n → IsUsed s (Fst m) s' n
  second_of : {s s' : Site} {m n : Core} → IsUsed s m s' n → IsUsed s (Snd m) s' n
  local_body : {s s' : Site} {x : Binder} {m b n : Core} → IsUsed (behind (nodes m) s) (instantiate b m) s' n → IsUsed s (Let x m b) s' n

-- The head form of the second term's rule type is used: the term is the body of a used product, is applied in a used application,
-- or is the operand of a used projection.
pub data IsHeadUsed (s : Site) (m : Core) : Site → Core → Type 0 where
  product_body : {s' : Site} {x : Binder} {a b : Core} → IsUsed s m s' (Pi x a b) → IsHeadUsed s m (under x a (behind 1 s')) b
  applied : {s' : Site} {k : Mark} {f n : Core} → IsUsed s m s' (App k f n) → IsHeadUsed s m s' f
  first_of : {s' : Site} {n : Core} → IsUsed s m s' (Fst n) → IsHeadUsed s m s' n
  second_of : {s' : Site} {n : Core} → IsUsed s m s' (Snd n) → IsHeadUsed s m s' n
