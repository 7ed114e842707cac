mod PartWeights
