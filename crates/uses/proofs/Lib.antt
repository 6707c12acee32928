mod UsedLemmas
