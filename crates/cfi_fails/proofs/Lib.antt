mod AnyCall
