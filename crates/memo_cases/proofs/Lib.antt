mod StoredLeaf
