mod ByHand
mod Released
