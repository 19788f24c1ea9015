mod FaultOrder
mod StableSort
