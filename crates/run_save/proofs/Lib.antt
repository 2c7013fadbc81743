mod SavedLemmas
