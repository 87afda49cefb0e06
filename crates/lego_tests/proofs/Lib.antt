mod UndoLemmas
